use Rattle.std.proofs.Common.{◌≡◌, ◌+◌, ◌<◌, length, take, Some, arith, refl}
use Rattle.std.proofs.lemmas.List.{take_rest}
use Rattle.otlp_spans.proofs.CutLemmas.{line_taken, last_taken}
use Rattle.otlp_spans.proofs.line_cuts.LinesLeft.cut_line.Goals as goal

pub returns-clause-taken : goal.returns-clause-taken
returns-clause-taken c =
    let rest = c.in_ok-rest.rest in
    let end = c.line_end-end.result in
    let lt : end < length rest.now = omega arith in
    let was : c.args.self.now.rest ≡ Some rest = cc in
    line_taken c.args.self.now.number c.args.self.now.rest rest end (take end rest.now) was c.line_end-end.ensures.first refl _ (take_rest rest.now (end + 1)) lt

pub returns-then-end-rest-clause-taken : goal.returns-then-end-rest-clause-taken
returns-then-end-rest-clause-taken c =
    let rest = c.in_ok-rest.rest in
    let end = c.line_end-end.result in
    let was : c.args.self.now.rest ≡ Some rest = cc in
    last_taken c.args.self.now.number c.args.self.now.rest rest end (take end rest.now) was c.line_end-end.ensures.first refl c.if-end-rest.true
