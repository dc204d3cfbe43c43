use Rattle.std.proofs.Common.{arith, option_copied, sym, ◌∙◌, ◌+◌}
use Rattle.step_core.specs.LinesLeft.{lines_left}
use Rattle.step_core.proofs.FileLemmas.{step_added}
use Rattle.step_core.proofs.reading.read_events.Goals as goal

pub lines-preserved : goal.lines-preserved
lines-preserved c = record {
  told =
      rw c.in_ok-push.ensures.items (
      step_added _ (lines_left (c.in-Some.next.number + 1) (option_copied c.in-Some.next.rest)) c.in-Some.next.number c.in-Some.next.line.now c.in-Some-2.event c.lines.events.items _ c.in-Some.ensures.lines
      (sym c.in-Some-2.is ∙ c.in_ok-event.ensures) c.lines.invariant.told
      );
  room = omega (arith, c.in-Some.ensures.room, c.lines.invariant.room);
  few = omega (arith, c.in-Some.ensures.later, c.lines.invariant.few, c.in_ok-push.ensures.len);
}
