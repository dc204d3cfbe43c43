use Rattle.std.proofs.Common.{◌++◌, arith, false}
use Rattle.std.proofs.lemmas.Result.{err_from_is_err_and}
use Rattle.line_split.specs.inner.Calls.{call_of_line}
use Rattle.line_split.proofs.CarryLemmas.{stops_long}
use Rattle.line_split.proofs.reading.take_piece.Goals as goal

pub returns-in_err-carry_on-clause-stops : goal.returns-in_err-carry_on-clause-stops
returns-in_err-carry_on-clause-stops g c =
    let p = err_from_is_err_and c.from_residual.result c.from_residual.ensures.1 in
    rw (p.1, p.2) c.in_err-carry_on.ensures.stops

pub returns-then-len-gt-LONGEST-clause-stops : goal.returns-then-len-gt-LONGEST-clause-stops
returns-then-len-gt-LONGEST-clause-stops g c = λ start before bytes h.
    let on = c.in_ok-carry_on.ensures.carried start before bytes h in
    stops_long (call_of_line c.args.call) c.args.file (bytes ++ c.args.piece.now) g.P.OutputFiles.written g.P.OutputFiles.faults start c.carry_on.new.outputs before c.carry_on.new.pending _ _ on false c.in_ok-carry_on.ensures.one (omega (arith, c.if-len-gt-LONGEST.true, c.len.ensures, c.carry_on.new.carry.rest.ok.0))
