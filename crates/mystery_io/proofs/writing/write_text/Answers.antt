use Rattle.std.proofs.Common.{ℕ, arith, length-drop, ◌∙◌}
use Rattle.std.proofs.lemmas.List.{take_rest, length-take}
use Rattle.mystery_io.proofs.KnownLemmas.{known_append_more}
use Rattle.mystery_io.proofs.writing.write_text.Goals as goal

pub loop-sent-preserved : goal.loop-sent-preserved
loop-sent-preserved g c = record {
  few = omega (arith, c.in_ok-sent.ensures.within, length-take {A = ℕ}, length-drop {A = ℕ});
  written = known_append_more _ _ _ c.args.bytes.now _ _ _ c.in_ok-sent.ensures.appends c.loop-sent.invariant.written (take_rest c.args.bytes.now c.loop-sent.sent);
  faults = c.in_ok-sent.ensures.counted ∙ c.loop-sent.invariant.faults;
  unsent = λ none. absurd (omega (arith, c.in_ok-sent.ensures.some, none));
}
