use Rattle.std.proofs.Common.{◌∙◌, [], ap, false, sym}
use Rattle.mystery_io.specs.Readings.{after_open}
use Rattle.mystery_io.proofs.KnownLemmas.{append_nothing}
use Rattle.line_clean.proofs.reading.clean_file.Goals as goal

pub returns-then-is_err-clause-stops : goal.returns-then-is_err-clause-stops
returns-then-is_err-clause-stops g c = record {
  bytes = [];
  at_end = false;
  given = c.open.ensures.given ∙ ap (after_open (g.F.Files.given c.args.files.now)) c.as_str.ensures;
  prefix = record { count = 0; appended = sym (append_nothing (g.S.Sink.written c.args.out.now)) };
}
