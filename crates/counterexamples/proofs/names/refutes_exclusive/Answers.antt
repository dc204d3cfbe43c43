use Rattle.std.proofs.Common.{sym, ◌∙◌}
use Rattle.std.proofs.lemmas.Bool.{false≢true}
use Rattle.trace_types.specs.Parts.{by_number}
use Rattle.trace_types.specs.Refuting.{StartsEarly}
use Rattle.trace_types.specs.declared.named_segment.NamedSegment.{NamedSegment}
use Rattle.trace_types.specs.declared.named_trace.NamedTrace.{NamedTrace}
use Rattle.refute_tests.proofs.ExactLemmas.{early_means, early_from}
use Rattle.counterexamples.proofs.NameLemmas.{has_both, none_of_both, of_both}
use Rattle.counterexamples.proofs.names.refutes_exclusive.Goals as goal

-- each starts before the other ends
abbrev AreBesideEachOther : NamedTrace → NamedSegment → NamedSegment → Type 0
AreBesideEachOther trace s t = StartsEarly by_number trace s t × StartsEarly by_number trace t s

pub returns-then-starts_early : goal.returns-then-starts_early
returns-then-starts_early c =
    let trace = c.args.trace.now in
    let s : NamedSegment = c.in-Some.s.now in
    let t : NamedSegment = c.in-Some.t.now in
    let one = sym c.starts_early.ensures ∙ c.if-starts_early.true in
    let two = c.starts_early-then-starts_early.ensures in (
      (λ h. has_both (AreBesideEachOther trace) trace c.args.low c.args.high s t c.in-Some.ensures (early_means trace t s one, early_means trace s t (sym two ∙ h))),
      (λ has. two ∙ early_from trace s t (of_both (AreBesideEachOther trace) trace c.args.low c.args.high s t c.in-Some.ensures has).1),
    )

pub returns-else-starts_early : goal.returns-else-starts_early
returns-else-starts_early c =
    let trace = c.args.trace.now in
    let s : NamedSegment = c.in-Some.s.now in
    let t : NamedSegment = c.in-Some.t.now in (
      (λ h. absurd (false≢true (sym c.if-starts_early.false ∙ h))),
      (λ has. c.starts_early.ensures ∙ early_from trace t s (of_both (AreBesideEachOther trace) trace c.args.low c.args.high s t c.in-Some.ensures has).0),
    )

pub returns-in-None : goal.returns-in-None
returns-in-None c =
    let trace = c.args.trace.now in
    ((λ h. absurd (false≢true h)), (λ has. absurd (none_of_both (AreBesideEachOther trace) trace c.args.low c.args.high c.in-None.ensures has)))
