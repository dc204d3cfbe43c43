-- Marks of the first numbers, and numbers that are not among others.
use Rattle.std.proofs.Common.{◌≡◌, ◌≢◌, ◌↔◌, ◌⊎◌, ℕ, ◌+◌, ◌<◌, Bool, Option, Some, None, List, [], ◌∷◌, ◌++◌, length, get_or, take, refl, sym, ap, ◌∙◌, subst, inl, inr, ⊎_elim, arith}
use Rattle.std.specs.List.{AllPairs, Contains, slice_get}
use Rattle.std.specs.Option.{option_map}
use Rattle.std.proofs.lemmas.List.{length-append, map_more}
use Rattle.std.proofs.lemmas.List.Elements.{Contains-append_cases, Contains-append_left, Contains-append_right, Contains-get_or}
use Rattle.std.proofs.lemmas.List.Quantifiers.{all_pairs_push}
use Rattle.std.proofs.lemmas.Option.{get_or_from_slice_get, slice_get_within}
use Rattle.day_partitions.specs.Books.{BookState, IsBook, KeptDay}
use Rattle.kept_names.specs.Marking.{IsMarked}
use Rattle.trace_types.proofs.ElementLemmas.{Contains-one, before_place, from_map}
use Rattle.view_rows.specs.inner.Gathered.{CountsOthers, days_in}

-- ---- marks
-- of the numbers before a place those below a count are marked besides
pub record MarksUpTo (count place : ℕ) (old now : List Bool) : Type 0 where
  pub size : length now ≡ length old
  pub marked : (n : ℕ) → IsMarked now n ↔ (IsMarked old n ⊎ ((n < count) × (n < place)))

-- ---- numbers that are not listed
-- one more number, which is listed or is not
pub others_skip : (firsts these : List ℕ) (x count : ℕ) → Contains firsts x → CountsOthers firsts these count → CountsOthers firsts (these ++ x ∷ []) count
others_skip firsts these x count listed so_far = record {
  others = so_far.others;
  differ = so_far.differ;
  apart = λ y c. let a = so_far.apart y c in (Contains-append_left these (x ∷ []) y a.0, a.1);
  either = λ y c. ⊎_elim
      (λ (d : Contains these y). so_far.either y d)
      (λ (d : Contains (x ∷ []) y). inl (subst (Contains firsts) (Contains-one x y d) listed))
      (Contains-append_cases these (x ∷ []) y c);
  count = so_far.count;
}

pub others_more : (firsts these : List ℕ) (x count : ℕ) → (Contains firsts x → ⊥) → (Contains these x → ⊥) → CountsOthers firsts these count → CountsOthers firsts (these ++ x ∷ []) (count + 1)
others_more firsts these x count unlisted fresh so_far = record {
  others = so_far.others ++ x ∷ [];
  differ = all_pairs_push (λ (a b : ℕ). a ≢ b) so_far.others x so_far.differ (λ k d lt e. fresh (subst (Contains these) e (so_far.apart (get_or so_far.others k d) (Contains-get_or so_far.others k d lt)).0));
  apart = λ y c. ⊎_elim
      (λ (d : Contains so_far.others y). let a = so_far.apart y d in (Contains-append_left these (x ∷ []) y a.0, a.1))
      (λ (d : Contains (x ∷ []) y). let same = Contains-one x y d in (Contains-append_right these (x ∷ []) y d, λ f. unlisted (subst (Contains firsts) (sym same) f)))
      (Contains-append_cases so_far.others (x ∷ []) y c);
  either = λ y c. ⊎_elim
      (λ (d : Contains these y). ⊎_elim (λ (f : Contains firsts y). inl f) (λ (o : Contains so_far.others y). inr (Contains-append_left so_far.others (x ∷ []) y o)) (so_far.either y d))
      (λ (d : Contains (x ∷ []) y). inr (Contains-append_right so_far.others (x ∷ []) y d))
      (Contains-append_cases these (x ∷ []) y c);
  count = length-append so_far.others (x ∷ []) ∙ ap (λ k. k + 1) so_far.count;
}

-- what a mapped option has
at_map : {X Y : Type 0} (f : X → Y) (o : Option X) (y : Y) → option_map f o ≡ Some y → (x : X) × (o ≡ Some x) × (f x ≡ y)
at_map f None y e = cc
at_map f (Some x) y e = (x, refl, cc)

-- the days of a book up to a place
pub days_next : (days : List KeptDay) (place day : ℕ) → option_map (λ (k : KeptDay). k.day) (slice_get days place) ≡ Some day → days_in (take (place + 1) days) ≡ days_in (take place days) ++ day ∷ []
days_next days place day got =
    let r = at_map (λ (k : KeptDay). k.day) (slice_get days place) day got in
    let lt = slice_get_within days place r.0 r.1 in
    map_more (λ (k : KeptDay). k.day) days place r.0 lt ∙ ap (λ (n : ℕ). days_in (take place days) ++ n ∷ []) (ap (λ (k : KeptDay). k.day) (get_or_from_slice_get days place r.0 r.0 r.1) ∙ r.2)

-- a day is none of those before it
pub day_fresh : (b : BookState) → IsBook b → (place day : ℕ) → option_map (λ (k : KeptDay). k.day) (slice_get b.days place) ≡ Some day → Contains (days_in (take place b.days)) day → ⊥
day_fresh b is place day got c =
    let r = at_map (λ (k : KeptDay). k.day) (slice_get b.days place) day got in
    let lt = slice_get_within b.days place r.0 r.1 in
    let e = from_map (λ (k : KeptDay). k.day) (take place b.days) day c in
    let less = before_place (λ (k l : KeptDay). k.day < l.day) b.days is.rising place r.0 lt (sym (get_or_from_slice_get b.days place r.0 r.0 r.1)) e.0 e.1 in
    let same : e.0.day ≡ r.0.day = e.2 ∙ sym r.2 in
    omega arith
