use Rattle.std.proofs.Common.{◌∙◌, [], ap, false, refl}
use Rattle.mystery_io.specs.Readings.{after_open}
use Rattle.line_split.specs.inner.Calls.{call_of_line}
use Rattle.line_split.proofs.CarryLemmas.{carried_begin, stops_read}
use Rattle.line_split.proofs.reading.split_file.Goals as goal

pub returns-then-is_err-clause-stops : goal.returns-then-is_err-clause-stops
returns-then-is_err-clause-stops g c =
    let P = g.P.OutputFiles in
    let call = call_of_line c.args.call in
    record {
      bytes = [];
      at_end = false;
      given = c.open.ensures.given ∙ ap (after_open (g.F.Files.given c.args.files.now)) c.as_str.ensures;
      stops = stops_read call c.args.file [] P.written P.faults c.args.outputs.now c.args.outputs.now c.args.pending.now c.args.pending.now [] 1
          (carried_begin call c.args.file P.written P.faults c.args.outputs.now c.args.pending.now [] 1 refl refl c.requires.fits) refl;
    }
