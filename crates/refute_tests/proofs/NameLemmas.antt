-- Segments sorted by name.
use Rattle.std.proofs.Common.{◌≡◌, ℕ, ◌<◌, ◌≤◌, All, Bool, ◌==◌, List, length, get_or, take, slice_index_or, subst, sym, ◌∙◌, ⊎_elim, arith, IsPermutation}
use Rattle.std.proofs.lemmas.Bool.{cases_eq, eqb-false, eq-eqb, ne_eqb}
use Rattle.std.proofs.lemmas.List.{get_or_default, get_or-take, length-take-le}
use Rattle.std.proofs.lemmas.Map.Keys.{apart_from_distinct, IsDistinct-from_apart, IsDistinct-IsPermutation}
use Rattle.std.specs.List.Sorted.{IsNonDecreasingBy}
use Rattle.trace_types.specs.declared.named_segment.NamedSegment.{NamedSegment}
use Rattle.trace_types.specs.NamedSegments.{number_of_name}
use Rattle.trace_types.specs.SegmentLists.{NamesDiffer}
use Rattle.refute_tests.specs.inner.Hits.{NamesRise}

pub names_rise : (xs ys : List NamedSegment) → NamesDiffer number_of_name xs → IsPermutation xs ys → IsNonDecreasingBy (λ (s : NamedSegment). s.name) ys → NamesRise ys
names_rise xs ys differ p up i j d l h =
    let test : NamedSegment → NamedSegment → Bool = λ (s : NamedSegment) (t : NamedSegment). s.name == t.name in
    let flips : (s t : NamedSegment) → test s t ≡ test t s = λ s t. ⊎_elim (λ (e : s.name ≡ t.name). eq-eqb s.name t.name e ∙ sym (eq-eqb t.name s.name (sym e))) (λ (e : s.name ≡ t.name → ⊥). ne_eqb s.name t.name e ∙ sym (ne_eqb t.name s.name (λ f. e (sym f)))) (cases_eq s.name t.name) in
    let a = apart_from_distinct test ys i j d (IsDistinct-IsPermutation test flips xs ys p (IsDistinct-from_apart test xs (λ m n e k o. ne_eqb (slice_index_or xs m e).name (slice_index_or xs n e).name (differ m n e k o)))) l h in
    let n = eqb-false (slice_index_or ys i d).name (slice_index_or ys j d).name a in
    let u = up i j d (omega arith) h in omega (arith, u, n)

-- the first of them rise too, and are less than the next
pub rise_take : (k : ℕ) (xs : List NamedSegment) → NamesRise xs → k ≤ length xs → NamesRise (take k xs)
rise_take k xs rise h i j d l m =
    let long : length (take k xs) ≡ k = length-take-le k xs h in
    let a = get_or-take k xs i d (omega arith) in
    let b = get_or-take k xs j d (omega arith) in
    subst (λ (s : NamedSegment). s.name < (get_or (take k xs) j d).name) (sym a) (subst (λ (t : NamedSegment). (get_or xs i d).name < t.name) (sym b) (rise i j d l (omega arith)))

pub less_take : (k : ℕ) (xs : List NamedSegment) (t : NamedSegment) → NamesRise xs → k < length xs → t ≡ get_or xs k t → All (λ (s : NamedSegment). s.name < t.name) (take k xs)
less_take k xs t rise h at i d l =
    let long : length (take k xs) ≡ k = length-take-le k xs (omega arith) in
    let a = get_or-take k xs i d (omega arith) in
    let here : get_or xs k d ≡ t = get_or_default xs k d t h ∙ sym at in
    subst (λ (s : NamedSegment). s.name < t.name) (sym a) (subst (λ (u : NamedSegment). (get_or xs i d).name < u.name) here (rise i k d (omega arith) h))
