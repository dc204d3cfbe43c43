use Rattle.std.proofs.Common.{◌+◌, ℕ, List, length, true, subst}
use Rattle.std.proofs.lemmas.Result.{err_from_is_err_and}
use Rattle.event_lines.specs.Cut.{input_lines}
use Rattle.line_split.specs.Lines.{lines_from}
use Rattle.line_split.specs.inner.Calls.{call_of_line}
use Rattle.line_split.specs.inner.Steps.{Splits, all_split}
use Rattle.line_split.proofs.CarryLemmas.{carried_begin, splits_last, stops_last}
use Rattle.line_split.proofs.StepLemmas.{failed, nothing, splits_ok}
use Rattle.line_split.proofs.reading.split_open.Goals as goal

pub returns-in_err-read_pieces-clause-stops : goal.returns-in_err-read_pieces-clause-stops
returns-in_err-read_pieces-clause-stops g c =
    let P = g.P.OutputFiles in
    let p = err_from_is_err_and c.from_residual.result c.from_residual.ensures.1 in
    rw (p.1, p.2) (λ first name is. c.in_err-read_pieces.ensures.stops c.args.outputs.now c.args.pending.now first name is
    (carried_begin (call_of_line c.args.call) c.args.file P.written P.faults c.args.outputs.now c.args.pending.now _ _ c.requires.none c.requires.first c.requires.fits))

pub returns-in_err-split_chunk-clause-stops : goal.returns-in_err-split_chunk-clause-stops
returns-in_err-split_chunk-clause-stops g c =
    let P = g.P.OutputFiles in
    let call = call_of_line c.args.call in
    let p = err_from_is_err_and c.from_residual-in_err-split_chunk.result c.from_residual-in_err-split_chunk.ensures.1 in
    let rest = c.read_pieces.new.carry.rest.items in
    rw (p.1, p.2) (λ first name is.
    let on = c.in_ok-read_pieces.ensures.read c.args.outputs.now c.args.pending.now first name is (carried_begin call c.args.file P.written P.faults c.args.outputs.now c.args.pending.now _ _ c.requires.none c.requires.first c.requires.fits) in
    let n = 1 + length on.carried.lines in
    let split = subst (λ (xs : List ℕ). Splits call (lines_from c.args.file n (input_lines xs)) (failed ℕ c.in_err-split_chunk.field-0.0) P.written P.faults c.read_pieces.new.outputs c.split_chunk.new.files c.read_pieces.new.pending c.split_chunk.new.pending) c.deref.ensures.value (c.in_err-split_chunk.ensures.split n on.carried.numbered) in
    record {
      bytes = on.bytes;
      at_end = true;
      given = on.given;
      stops = stops_last call c.args.file on.bytes P.written P.faults c.args.outputs.now c.read_pieces.new.outputs c.args.pending.now c.read_pieces.new.pending rest _ on.carried ℕ c.in_err-split_chunk.field-0.0 c.split_chunk.new.files c.split_chunk.new.pending split;
    })

pub returns-clause-split : goal.returns-clause-split
returns-clause-split g c = λ first name is.
    let P = g.P.OutputFiles in
    let call = call_of_line c.args.call in
    let rest = c.read_pieces.new.carry.rest.items in
    let on = c.in_ok-read_pieces.ensures.read c.args.outputs.now c.args.pending.now first name is (carried_begin call c.args.file P.written P.faults c.args.outputs.now c.args.pending.now _ _ c.requires.none c.requires.first c.requires.fits) in
    let n = 1 + length on.carried.lines in
    let split = splits_ok call P.written P.faults _ nothing _ c.read_pieces.new.outputs c.split_chunk.new.files c.read_pieces.new.pending c.split_chunk.new.pending (c.in_ok-split_chunk.ensures.split n on.carried.numbered) in
    let here = subst (λ (xs : List ℕ). Splits call (lines_from c.args.file n (input_lines xs)) all_split P.written P.faults c.read_pieces.new.outputs c.split_chunk.new.files c.read_pieces.new.pending c.split_chunk.new.pending) c.deref.ensures.value split in
    record {
      bytes = on.bytes;
      given = on.given;
      split = splits_last call c.args.file on.bytes P.written P.faults c.args.outputs.now c.read_pieces.new.outputs c.args.pending.now c.read_pieces.new.pending rest _ on.carried c.split_chunk.new.files c.split_chunk.new.pending here;
    }
