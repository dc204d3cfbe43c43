use Rattle.std.proofs.Common.{◌≡◌, ◌++◌, Some, ap, ◌∙◌, sym, rules}
use Rattle.std.specs.Prelude.{FitsSigned}
use Rattle.std.specs.Int.{int_max, int_min}
use mir.Syntax.{w128}
use mir.Val.{to_z, of_z}
use Rattle.std.proofs.lemmas.Int.{to_z-of_z}
use Rattle.clock_offsets.specs.declared.machine_clock.Clock.{Clock}
use Rattle.machine_quality.specs.MachineTallies.{offset_in, range_of}
use Rattle.machine_quality.proofs.TallyLemmas.{range_push}
use Rattle.machine_quality.proofs.tallying.widen.Goals as goal

pub returns-in-Some : goal.returns-in-Some
returns-in-Some c = λ os h.
    let low_fits : FitsSigned w128 c.min.result = search rules in
    let high_fits : FitsSigned w128 c.max.result = search rules in
    let least_fits : FitsSigned w128 c.in-Some.range.least = search rules in
    let greatest_fits : FitsSigned w128 c.in-Some.range.greatest = search rules in
    let offset_fits : FitsSigned w128 c.in-Reached.offset = search rules in
    let own : to_z w128 (of_z w128 c.in-Reached.offset) ≡ c.in-Reached.offset = to_z-of_z w128 c.in-Reached.offset offset_fits in
    let low : to_z w128 (of_z w128 c.min.result) ≡ int_min c.in-Some.range.least c.in-Reached.offset =
    to_z-of_z w128 c.min.result low_fits ∙ c.min.ensures.value ∙ (λ i. int_min (to_z-of_z w128 c.in-Some.range.least least_fits i) (own i)) in
    let high : to_z w128 (of_z w128 c.max.result) ≡ int_max c.in-Some.range.greatest c.in-Reached.offset =
    to_z-of_z w128 c.max.result high_fits ∙ c.max.ensures.value ∙ (λ i. int_max (to_z-of_z w128 c.in-Some.range.greatest greatest_fits i) (own i)) in
    let made : Some (record { least = to_z w128 (of_z w128 c.min.result); greatest = to_z w128 (of_z w128 c.max.result) }) ≡ Some (record { least = int_min c.in-Some.range.least c.in-Reached.offset; greatest = int_max c.in-Some.range.greatest c.in-Reached.offset }) = λ i. Some (record { least = low i; greatest = high i }) in
    made ∙ range_push os c.in-Reached.offset c.in-Some.range (sym c.in-Some.is ∙ h) ∙ ap (λ (k : Clock). range_of (os ++ offset_in k)) (sym c.in-Reached.is)
