use Rattle.std.proofs.Common.{◌≡◌, ℤ, ◌+ℤ◌, Some, None, sym, ap, ◌∙◌, rules}
use Rattle.std.specs.Prelude.{FitsSigned}
use mir.Syntax.{w64, w128}
use mir.Val.{to_z, of_z}
use Rattle.std.proofs.lemmas.Int.{to_z-of_z}
use Rattle.clock_offsets.specs.inner.Delays.{least_in}
use Rattle.clock_offsets.proofs.ClockLemmas.{round_is, some_there, some_back}
use Rattle.clock_offsets.proofs.machine_clocks.round_trip.Goals as goal

pub returns-in_default : goal.returns-in_default
returns-in_default c =
    let none : least_in c.args.least.now c.args.from c.args.to ≡ None = sym c.get.ensures.value ∙ (sym c.copied.ensures ∙ c.in_default.is) in
    absurd (some_there c.args.trace.now.trace.events c.args.numbers.now c.args.least.now c.args.from c.args.to c.requires.delays c.requires.from c.requires.to c.requires.paired none)

pub returns-in_default-copied : goal.returns-in_default-copied
returns-in_default-copied c =
    let none : least_in c.args.least.now c.args.to c.args.from ≡ None = sym c.get-2.ensures.value ∙ (sym c.copied-2.ensures ∙ c.in_default-copied.is) in
    absurd (some_back c.args.trace.now.trace.events c.args.numbers.now c.args.least.now c.args.from c.args.to c.requires.delays c.requires.from c.requires.to c.requires.paired none)

pub returns : goal.returns
returns c =
    let there : least_in c.args.least.now c.args.from c.args.to ≡ Some c.in-Some.there = sym c.get.ensures.value ∙ (sym c.copied.ensures ∙ c.in-Some.is) in
    let back : least_in c.args.least.now c.args.to c.args.from ≡ Some c.in-Some-copied.back = sym c.get-2.ensures.value ∙ (sym c.copied-2.ensures ∙ c.in-Some-copied.is) in
    let there_fits : FitsSigned w64 c.in-Some.there = search rules in
    let back_fits : FitsSigned w64 c.in-Some-copied.back = search rules in
    let sum : c.add_delays.result ≡ c.in-Some.there +ℤ c.in-Some-copied.back = c.add_delays.ensures
    ∙ ap (λ (x : ℤ). x +ℤ to_z w64 (of_z w64 c.in-Some-copied.back)) (to_z-of_z w64 c.in-Some.there there_fits)
    ∙ ap (λ (x : ℤ). c.in-Some.there +ℤ x) (to_z-of_z w64 c.in-Some-copied.back back_fits) in
    let sum_fits : FitsSigned w128 c.add_delays.result = search rules in
    round_is c.args.trace.now.trace.events c.args.numbers.now c.args.least.now c.args.from c.args.to c.in-Some.there c.in-Some-copied.back (to_z w128 (of_z w128 c.add_delays.result)) c.requires.delays there back (to_z-of_z w128 c.add_delays.result sum_fits ∙ sum)
