use Rattle.std.proofs.Common.{◌≡◌, ℤ, Option, sym, ◌∙◌, subst, arith}
use Rattle.std.proofs.lemmas.Int.{to_z-of_z}
use mir.Syntax.{w64}
use mir.Val.{to_z}
use Rattle.clock_offsets.specs.inner.Delays.{least_in}
use Rattle.clock_offsets.proofs.MessageLemmas.{event_there}
use Rattle.clock_offsets.proofs.DelayLemmas.{IsLower, least_skip, least_next, least_done}
use Rattle.clock_offsets.proofs.delays.find_least_delays.Goals as goal
use Rattle.clock_offsets.proofs.delays.find_least_delays.Goals.{in-Some-copied, in-None}

pub loop-at-preserved-in_default : goal.loop-at-preserved-in_default
loop-at-preserved-in_default c =
    let e = event_there c.args.trace.now.trace.events c.loop-at.at (omega arith) in
    least_skip c.args.trace.now.trace.events c.args.numbers.now c.loop-at.at e.0 c.loop-at.least c.requires.numbered e.1 (c.in_default.ensures e.0 e.1) c.loop-at.invariant

pub loop-at-preserved : goal.loop-at-preserved
loop-at-preserved c =
    let e = event_there c.args.trace.now.trace.events c.loop-at.at (omega arith) in
    let known : least_in c.loop-at.least c.in-Some.message.from c.in-Some.message.to ≡ c.copied.result = sym c.get.ensures.value ∙ sym c.copied.ensures in
    let lower : IsLower (least_in c.loop-at.least c.in-Some.message.from c.in-Some.message.to) c.in-Some.message.delay (to_z w64 c.match-copied.delay-bits) = elim c.match-copied.branch [
      | in-Some-copied w ↦ subst (λ (o : Option ℤ). IsLower o c.in-Some.message.delay (to_z w64 c.match-copied.delay-bits)) (sym (known ∙ w.in-Some-copied.is)) (grind (arith, to_z-of_z))
      | in-None w ↦ subst (λ (o : Option ℤ). IsLower o c.in-Some.message.delay (to_z w64 c.match-copied.delay-bits)) (sym (known ∙ w.in-None.is)) (grind (arith, to_z-of_z))
    ] in
    least_next c.args.trace.now.trace.events c.args.numbers.now c.loop-at.at e.0 c.in-Some.message c.loop-at.least c.insert.new.self (to_z w64 c.match-copied.delay-bits) c.requires.numbered e.1 (c.in-Some.ensures e.0 e.1) c.loop-at.invariant
    lower c.in_ok-insert.ensures.ordered c.in_ok-insert.ensures.updates.0

pub returns : goal.returns
returns c = least_done c.args.trace.now.trace.events c.args.numbers.now c.loop-at.at c.loop-at.least (omega arith) c.loop-at.invariant
