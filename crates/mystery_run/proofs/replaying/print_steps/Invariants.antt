use Rattle.std.proofs.Common.{◌≡◌, ◌+◌, ◌≤◌, length, take}
use Rattle.word_rows.specs.Machine.{steps}
use Rattle.text_rows.specs.Printing.{Prints}
use Rattle.mystery_run.specs.inner.Replaying.{steps_text}
use Rattle.mystery_run.proofs.replaying.print_steps.Given as goal

-- the first steps were made, and their rows printed
abbrev pub invariant-loop-event : goal.invariant-loop-event
invariant-loop-event g l = record {
  state : l.machine ≡ (steps l.fn.machine (take l.event-index l.events)).0;
  seats : length l.machine.views ≤ length l.fn.machine.views + l.event-index;
  prints : Prints (g.S.Sink.written l.fn.out) (g.S.Sink.written l.out) l.fn.buffer l.buffer (steps_text l.fn.machine (take l.event-index l.events));
  counted : g.S.Sink.faults l.out ≡ g.S.Sink.faults l.fn.out;
}
