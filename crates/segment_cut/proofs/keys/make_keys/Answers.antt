use Rattle.std.proofs.Common.{◌≡◌, ℤ, pos, get_or, refl, ap, subst, ◌∙◌, arith, rules}
use Rattle.std.specs.Prelude.{FitsSigned}
use Rattle.std.proofs.lemmas.Int.{to_z-of_z}
use mir.Syntax.{w64, w128}
use mir.Val.{to_z, of_z}
use Rattle.clock_offsets.specs.Offsets.{adjusted_time}
use Rattle.segment_cut.specs.AdjustedTimes.{IsInClockRange}
use Rattle.segment_cut.proofs.TimeLemmas.{range_fits, adjusted_is, times_fault}
use Rattle.segment_cut.specs.inner.Keys.{key_times}
use Rattle.segment_cut.proofs.MadeLemmas.{keys_push, keys_made}
use Rattle.segment_cut.proofs.keys.make_keys.Goals as goal

pub returns-in_default : goal.returns-in_default
returns-in_default c =
    let events = c.args.trace.now.trace.events in
    let offset = get_or c.args.offsets.now c.loop-at.at (pos 0) in
    let fits : FitsSigned w128 (get_or c.args.offsets.now c.loop-at.at (pos 0)) = search rules in
    let whole : to_z w128 (of_z w128 (get_or c.args.offsets.now c.loop-at.at (pos 0))) ≡ get_or c.args.offsets.now c.loop-at.at (pos 0) = to_z-of_z w128 (get_or c.args.offsets.now c.loop-at.at (pos 0)) fits in
    times_fault events c.loop-at.at c.line.result (key_times c.loop-at.keys.items) (adjusted_time c.time.result offset) c.loop-at.invariant.times (omega arith)
    (adjusted_is events c.loop-at.at c.time.result offset (adjusted_time c.time.result offset) c.time.ensures (c.requires.offsets.value c.loop-at.at (omega arith)) refl)
    (subst (λ (x : ℤ). IsInClockRange (adjusted_time c.time.result x) → ⊥) whole c.in_default.ensures)
    c.line.ensures

pub loop-at-preserved : goal.loop-at-preserved
loop-at-preserved c =
    let events = c.args.trace.now.trace.events in
    let offset = get_or c.args.offsets.now c.loop-at.at (pos 0) in
    let fits : FitsSigned w128 (get_or c.args.offsets.now c.loop-at.at (pos 0)) = search rules in
    let whole : to_z w128 (of_z w128 (get_or c.args.offsets.now c.loop-at.at (pos 0))) ≡ get_or c.args.offsets.now c.loop-at.at (pos 0) = to_z-of_z w128 (get_or c.args.offsets.now c.loop-at.at (pos 0)) fits in
    rw (c.in_ok-push.ensures.items, to_z-of_z w64 c.in-Some.time (range_fits c.in-Some.time c.in-Some.ensures.1))
    (keys_push c.args.tasks.now events c.loop-at.at c.loop-at.keys.items (get_or c.args.tasks.now c.loop-at.at 0) c.in-Some.time c.loop-at.invariant refl
    (adjusted_is events c.loop-at.at c.time.result offset c.in-Some.time c.time.ensures (c.requires.offsets.value c.loop-at.at (omega arith))
    (c.in-Some.ensures.0 ∙ ap (λ (x : ℤ). adjusted_time c.time.result x) whole))
    c.in-Some.ensures.1)

pub returns : goal.returns
returns c = keys_made c.args.tasks.now c.args.trace.now.trace.events c.loop-at.at c.loop-at.keys.items c.loop-at.invariant (omega arith) c.requires.each
