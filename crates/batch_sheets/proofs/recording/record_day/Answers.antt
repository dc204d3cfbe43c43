use Rattle.std.proofs.Common.{refl}
use Rattle.batch_sheets.proofs.RecordLemmas.{day_lines}
use Rattle.batch_sheets.proofs.recording.record_day.Goals as goal

pub returns-in-Ok-close-clause-watched : goal.returns-in-Ok-close-clause-watched
returns-in-Ok-close-clause-watched g c = record {
  day = refl;
  lines = day_lines c.numbers_are_within.ensures c.args.every _ c.args.workers c.args.split.traces.items c.in_ok-recorder.recorder c.in_ok-recorder.recording c.in-Ok.recording c.in-Ok.lines
      c.in_ok-recorder.ensures.recording c.in_ok-recorder.ensures.shares c.in-Ok.ensures.watched c.in-Ok.ensures.traces c.in-Ok-close.ensures.readings;
}
