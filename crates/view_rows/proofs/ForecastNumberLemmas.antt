-- The number of a name in a list of different names.
use Rattle.std.proofs.Common.{◌≡◌, ◌≢◌, ℕ, ◌<◌, List, [], ◌∷◌, length, get_or, position, slice_get, Some, None, Bool, true, false, ◌==◌, refl, sym, ap, ◌∙◌, subst, ⊎_elim, true≢false}
use Rattle.std.specs.List.{AllPairs}
use Rattle.std.proofs.lemmas.Bool.{cases_order, eq-eqb, ne_eqb}
use Rattle.std.proofs.lemmas.List.{get_or_default}
use Rattle.std.proofs.lemmas.List.Quantifiers.{position-Some}
use Rattle.std.proofs.lemmas.Option.{get_or_from_slice_get, slice_get_within, slice_get_read}
use Rattle.trace_types.specs.Segments.{SegmentName}
use Rattle.segment_names.specs.Known.{same_name}
use Rattle.segment_names.proofs.TextLemmas.{name_means, name_own}
use Rattle.trace_types.proofs.ElementLemmas.{none_passes}

-- a name that has no number is no name of the list
pub no_number : (names : List SegmentName) (name other : SegmentName) (k : ℕ) → position (same_name name) names ≡ None → slice_get names k ≡ Some other → same_name name other ≡ false
no_number names name other k none here = subst (λ n. same_name name n ≡ false) (get_or_from_slice_get names k other other here) (none_passes (same_name name) names none k other (slice_get_within names k other here))

found_there : (names : List SegmentName) (name : SegmentName) (i : ℕ) → position (same_name name) names ≡ Some i → slice_get names i ≡ Some name
found_there [] name i e = absurd (let s : None ≡ Some i = e in cc)
found_there (y ∷ ys) name i e = let q = position-Some (same_name name) (y ∷ ys) i y e in
    slice_get_read (y ∷ ys) (length (y ∷ ys)) i name refl q.0 (let t : get_or (y ∷ ys) i name ≡ get_or (y ∷ ys) i y = get_or_default (y ∷ ys) i name y q.0 in name_means name (get_or (y ∷ ys) i y) q.1 ∙ sym t)

-- two numbers are one exactly where the names are
numbers_alike : (names : List SegmentName) → AllPairs (λ a b. a ≢ b) names → (i j : ℕ) (x y : SegmentName) → slice_get names i ≡ Some x → slice_get names j ≡ Some y → (i == j) ≡ same_name x y
numbers_alike names differ i j x y ei ej =
    let gi : get_or names i x ≡ x = get_or_from_slice_get names i x x ei in
    let gj : get_or names j x ≡ y = get_or_from_slice_get names j y x ej in
    let li = slice_get_within names i x ei in
    let lj = slice_get_within names j y ej in
    by (same_name x y) refl gi gj li lj
  where
    by : (b : Bool) → same_name x y ≡ b → get_or names i x ≡ x → get_or names j x ≡ y → i < length names → j < length names → (i == j) ≡ same_name x y
    by true e gi gj li lj = let s : get_or names i x ≡ get_or names j x = gi ∙ name_means x y e ∙ sym gj in ⊎_elim
        (λ (h : i ≡ j). eq-eqb i j h ∙ sym e)
        (⊎_elim (λ (h : i < j). absurd (differ i j x h lj s)) (λ (h : j < i). absurd (differ j i x h li (sym s))))
        (cases_order i j)
    by false e gi gj li lj = ne_eqb i j (λ h. true≢false (sym (name_own x) ∙ subst (λ (z : SegmentName). same_name x z ≡ false) (sym gj ∙ ap (λ (k : ℕ). get_or names k x) (sym h) ∙ gi) e)) ∙ sym e

-- the number of a name is another's exactly where the names are the same
pub number_tells : (names : List SegmentName) → AllPairs (λ a b. a ≢ b) names → (name other : SegmentName) (n k : ℕ) → position (same_name name) names ≡ Some n → slice_get names k ≡ Some other → (n == k) ≡ same_name name other
number_tells names differ name other n k found here = numbers_alike names differ n k name other (found_there names name n found) here
