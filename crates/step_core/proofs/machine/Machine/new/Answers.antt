use Rattle.std.proofs.Common.{◌≡◌, List, [], sym, ap, subst, ◌∙◌}
use Rattle.word_rows.specs.declared.events.StepEvent.{StepEvent}
use Rattle.word_rows.specs.Machine.{IsSoundState, after}
use Rattle.step_core.specs.inner.Briefs.{brief_state}
use Rattle.step_core.proofs.machine.Machine.new.Goals as goal

pub invariant_of-result : goal.invariant_of-result
invariant_of-result c =
    let w = c.args.width in let n = c.args.shares in
    let none : c.new.result.items ≡ [] = c.new.ensures.items in
    record {
      brief = c.in_ok-new.ensures ∙ ap (λ (l : List StepEvent). brief_state (after w n l).0) (sym none);
      sound = subst (λ (l : List StepEvent). IsSoundState (after w n l).0) (sym none) (c.opening_is_sound.ensures w n);
    }
