use Rattle.std.proofs.Common.{true}
use Rattle.std.proofs.lemmas.Result.{IfErr-weaker, err_from_is_err_and, on_ok_weaker}
use Rattle.line_clean.proofs.CarryLemmas.{with_none}
use Rattle.line_clean.proofs.StepLemmas.{carries_none}
use Rattle.line_clean.proofs.reading.clean_open.Goals as goal

pub returns-in_err-read_pieces-clause-stops : goal.returns-in_err-read_pieces-clause-stops
returns-in_err-read_pieces-clause-stops g c =
    let start = g.S.Sink.written c.args.out.now in
    let p = err_from_is_err_and c.from_residual.result c.from_residual.ensures.1 in
    let begun = carries_none start c.new-carry.result (λ later. with_none c.new-carry.result later c.new-carry.ensures.short c.new-carry.ensures.empty) in
    rw p.1 (λ first name is. c.in_err-read_pieces.ensures.stops start first name is begun)

pub returns-clause-cleaned : goal.returns-clause-cleaned
returns-clause-cleaned g c =
    let start = g.S.Sink.written c.args.out.now in
    let begun = carries_none start c.new-carry.result (λ later. with_none c.new-carry.result later c.new-carry.ensures.short c.new-carry.ensures.empty) in
    on_ok_weaker c.end_file.result (λ written first name is.
    let on = c.in_ok-read_pieces.ensures.read start first name is begun in
    record { bytes = on.bytes; given = on.given; written = written start on.bytes on.carries }) c.end_file.ensures.written

pub returns-clause-stops : goal.returns-clause-stops
returns-clause-stops g c =
    let start = g.S.Sink.written c.args.out.now in
    let begun = carries_none start c.new-carry.result (λ later. with_none c.new-carry.result later c.new-carry.ensures.short c.new-carry.ensures.empty) in
    IfErr-weaker c.end_file.result _ _ (λ fault cut first name is.
    let on = c.in_ok-read_pieces.ensures.read start first name is begun in
    record { bytes = on.bytes; at_end = true; given = on.given; prefix = cut start on.bytes on.carries }) c.end_file.ensures.prefix
