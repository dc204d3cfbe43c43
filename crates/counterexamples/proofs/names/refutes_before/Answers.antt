use Rattle.std.proofs.Common.{◌≡◌, ◌↔◌, Bool, true, sym, subst}
use Rattle.std.proofs.lemmas.Bool.{false≢true}
use Rattle.trace_types.specs.Parts.{by_number}
use Rattle.trace_types.specs.Refuting.{RefutesBefore, StartsEarly}
use Rattle.trace_types.specs.declared.named_segment.NamedSegment.{NamedSegment}
use Rattle.refute_tests.proofs.ExactLemmas.{early_means, early_from}
use Rattle.counterexamples.proofs.NameLemmas.{has_both, none_of_both, of_both}
use Rattle.counterexamples.proofs.names.refutes_before.Goals as goal

pub returns-in-Some : goal.returns-in-Some
returns-in-Some c =
    let trace = c.args.trace.now in
    let first = c.args.first in
    let second = c.args.second in
    let s : NamedSegment = c.in-Some.s.now in
    let t : NamedSegment = c.in-Some.t.now in
    subst (λ (b : Bool). (b ≡ true) ↔ RefutesBefore by_number first second trace) (sym c.starts_early.ensures) (
      (λ h. has_both (λ (x : NamedSegment) (y : NamedSegment). StartsEarly by_number trace y x) trace first second s t c.in-Some.ensures (early_means trace s t h)),
      (λ has. early_from trace s t (of_both (λ (x : NamedSegment) (y : NamedSegment). StartsEarly by_number trace y x) trace first second s t c.in-Some.ensures has)),
    )

pub returns-in-None : goal.returns-in-None
returns-in-None c =
    let trace = c.args.trace.now in
    ((λ h. absurd (false≢true h)), (λ has. absurd (none_of_both (λ (x : NamedSegment) (y : NamedSegment). StartsEarly by_number trace y x) trace c.args.first c.args.second c.in-None.ensures has)))
