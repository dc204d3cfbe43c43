-- What a trace refutes of two names, by its segments with these names.
use Rattle.std.proofs.Common.{◌≡◌, ◌≢◌, ℕ, ◌<◌, get_or, Contains, sym, ap, ◌∙◌, subst, ⊎_elim, ◌⊎◌}
use Rattle.std.proofs.lemmas.Bool.{cases_order}
use Rattle.std.proofs.lemmas.List.{get_or_default}
use Rattle.std.proofs.lemmas.List.Elements.{All-contains}
use Rattle.trace_types.specs.Parts.{by_number}
use Rattle.trace_types.specs.Refuting.{HasBoth}
use Rattle.trace_types.specs.declared.named_segment.NamedSegment.{NamedSegment}
use Rattle.trace_types.specs.declared.named_trace.NamedTrace.{NamedTrace}
use Rattle.counterexamples.specs.inner.Named.{AreOf, HasNone, HasNotBoth}

-- a trace that lacks a name has not both
pub lacks_first : (trace : NamedTrace) (first second : ℕ) → HasNone trace first → HasNotBoth trace first second
lacks_first trace first second none (s, t, one, other, name, named, r) = All-contains (λ (x : NamedSegment). x.name ≢ first) trace.segments s none one name

pub lacks_second : (trace : NamedTrace) (first second : ℕ) → HasNone trace second → HasNotBoth trace first second
lacks_second trace first second none (s, t, one, other, name, named, r) = All-contains (λ (x : NamedSegment). x.name ≢ second) trace.segments t none other named

-- two segments of a trace with one name are one
same_segment : (trace : NamedTrace) (s t : NamedSegment) → Contains trace.segments s → Contains trace.segments t → s.name ≡ t.name → s ≡ t
same_segment trace s t (i, li, es) (j, lj, et) same = ⊎_elim
    (λ (e : i ≡ j). sym es ∙ (ap (λ (k : ℕ). get_or trace.segments k s) e ∙ (get_or_default trace.segments j s t lj ∙ et)))
    (λ (either : (i < j) ⊎ (j < i)). absurd (⊎_elim
    (λ (less : i < j). trace.names_differ i j s less lj (ap (λ (x : NamedSegment). x.name) es ∙ (same ∙ sym (ap (λ (x : NamedSegment). x.name) (get_or_default trace.segments j s t lj ∙ et)))))
    (λ (more : j < i). trace.names_differ j i s more li (ap (λ (x : NamedSegment). x.name) (get_or_default trace.segments j s t lj ∙ et) ∙ (sym same ∙ sym (ap (λ (x : NamedSegment). x.name) es))))
    either))
    (cases_order i j)

-- what holds of some segments with these names holds of those that were found
pub of_both : (R : NamedSegment → NamedSegment → Type 0) (trace : NamedTrace) (first second : ℕ) (s t : NamedSegment) → AreOf trace first second s t → HasBoth by_number first second R trace → R s t
of_both R trace first second s t are (u, v, one, other, name, named, r) =
    subst (R s) (same_segment trace v t other are.other.there (named ∙ sym are.other.named))
    (subst (λ (x : NamedSegment). R x v) (same_segment trace u s one are.one.there (name ∙ sym are.one.named)) r)

pub has_both : (R : NamedSegment → NamedSegment → Type 0) (trace : NamedTrace) (first second : ℕ) (s t : NamedSegment) → AreOf trace first second s t → R s t → HasBoth by_number first second R trace
has_both R trace first second s t are r = (s, t, are.one.there, are.other.there, are.one.named, are.other.named, r)

-- without both nothing holds of two
pub none_of_both : (R : NamedSegment → NamedSegment → Type 0) (trace : NamedTrace) (first second : ℕ) → HasNotBoth trace first second → HasBoth by_number first second R trace → ⊥
none_of_both R trace first second none (s, t, one, other, name, named, r) = none (s, t, one, other, name, named, tt)
