use Rattle.std.proofs.Common.{◌≡◌, ◌+◌, ◌≤◌, Ok, length, ◌++◌, ◌∷◌, [], subst, ◌∙◌}
use Rattle.word_rows.specs.Machine.{StepState, after, step}
use Rattle.step_core.specs.StepFaults.{HasStepFault}
use Rattle.step_core.proofs.KeptLemmas.{kept_steady, kept_fault, kept_next, kept_step, kept_count}
use Rattle.step_core.proofs.machine.Machine.step.Goals as goal

pub returns-in-Some-clause-fault : goal.returns-in-Some-clause-fault
returns-in-Some-clause-fault c =
    let i = c.self.inside in let e = c.args.event.now in
    subst (λ (u : StepState). HasStepFault u e c.in-Some.fault) c.self.view_is (kept_fault i.width i.shares i.events.items i.tables c.self.invariant e c.in-Some.fault c.in-Some.ensures)

pub change-requires-clause-steady : goal.change-requires-clause-steady
change-requires-clause-steady c =
    let i = c.self.inside in
    kept_steady i.width i.shares i.events.items i.tables c.self.invariant c.args.event.now

pub invariant_of-self-2 : goal.invariant_of-self-2
invariant_of-self-2 c =
    let i = c.self.inside in let e = c.args.event.now in
    let more : c.push_reserved.new.self.items ≡ i.events.items ++ e ∷ [] = c.push_reserved.ensures.items ∙ (λ j. c.in_ok-reserve.ensures.items j ++ c.in_ok-kept.ensures.same j ∷ []) in
    kept_next i.width i.shares i.events.items i.tables c.self.invariant e c.in_default.ensures c.push_reserved.new.self.items more c.step_keeps_sound.ensures c.in_ok-kept.ensures.form c.change.new.self c.in_ok-reply.ensures.follows

pub returns-clause-ok : goal.returns-clause-ok
returns-clause-ok c =
    let i = c.self.inside in let e = c.args.event.now in
    let more : c.push_reserved.new.self.items ≡ i.events.items ++ e ∷ [] = c.push_reserved.ensures.items ∙ (λ j. c.in_ok-reserve.ensures.items j ++ c.in_ok-kept.ensures.same j ∷ []) in
    let made = kept_step i.width i.shares i.events.items i.tables c.self.invariant e c.in_default.ensures c.push_reserved.new.self.items more c.in_ok-reply.reply c.in_ok-reply.ensures.reply in
    subst (λ (u : StepState). step u e ≡ ((after i.width i.shares c.push_reserved.new.self.items).0, Ok c.in_ok-reply.reply)) c.self.view_is made

pub returns-clause-seats : goal.returns-clause-seats
returns-clause-seats c =
    let i = c.self.inside in let e = c.args.event.now in
    let more : c.push_reserved.new.self.items ≡ i.events.items ++ e ∷ [] = c.push_reserved.ensures.items ∙ (λ j. c.in_ok-reserve.ensures.items j ++ c.in_ok-kept.ensures.same j ∷ []) in
    let count = kept_count i.width i.shares i.events.items i.tables c.self.invariant e c.in_default.ensures c.push_reserved.new.self.items more in
    subst (λ (u : StepState). length (after i.width i.shares c.push_reserved.new.self.items).0.views ≤ length u.views + 1) c.self.view_is count

pub returns-clause-sound : goal.returns-clause-sound
returns-clause-sound c =
    let i = c.self.inside in let e = c.args.event.now in
    let more : c.push_reserved.new.self.items ≡ i.events.items ++ e ∷ [] = c.push_reserved.ensures.items ∙ (λ j. c.in_ok-reserve.ensures.items j ++ c.in_ok-kept.ensures.same j ∷ []) in
    let kept = kept_next i.width i.shares i.events.items i.tables c.self.invariant e c.in_default.ensures c.push_reserved.new.self.items more c.step_keeps_sound.ensures c.in_ok-kept.ensures.form c.change.new.self c.in_ok-reply.ensures.follows in
    kept.sound
