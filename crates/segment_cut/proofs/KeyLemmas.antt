-- The keys of all events, in the order of lines, and sorted.
use Rattle.std.proofs.Common.{◌≡◌, ℕ, ◌<◌, ℤ, pos, ◌<ℤ◌, false, eqb, eq-eqb, List, length, get_or, All, Contains, arith, refl, sym, ap, ◌∙◌, subst, inl, inr}
use Rattle.std.specs.List.{IsDistinct}
use Rattle.std.specs.List.Sorted.{IsPermutation, IsSorted}
use Rattle.std.specs.Cmp.{IsTotalOrder}
use Rattle.std.specs.Ordering.{nat_cmp, int_cmp, is_lt, ordering_then, MatchOrdering}
use Rattle.std.specs.declared.cmp.Ordering.{Ordering}
use Rattle.std.specs.declared.cmp.Ordering.TheVariants.{Less, Equal, Greater}
use Rattle.std.proofs.lemmas.Bool.{false≢true}
use Rattle.std.proofs.lemmas.Bool.Decides.{nat_tests}
use Rattle.std.proofs.lemmas.Cmp.{nat_cmp_total, int_cmp_total, then_total, on_total, ranked, int_ranked}
use Rattle.std.proofs.lemmas.List.{get_or-map, get_or_default}
use Rattle.std.proofs.lemmas.List.Elements.{All-from_get_or, All-get_or, Contains-get_or}
use Rattle.std.proofs.lemmas.List.Sorted.{All-permutation, Contains-permutation, length_permutation, sorted_far, ranks_by}
use Rattle.std.proofs.lemmas.Map.Keys.{IsDistinct-from_apart, IsDistinct-IsPermutation, apart_from_distinct}
use Rattle.segment_cut.specs.AdjustedTimes.{adjusted_at}
use Rattle.segment_cut.specs.inner.Keys.{AreInLineOrder, Key, no_key, key_at, key_times, IsKeyBefore, AreKeys}

-- the keys of the first n events, by place, at these times
pub record AreMadeTo (tasks : List ℕ) (times : List ℤ) (n : ℕ) (keys : List Key) : Type 0 where
  pub each : length keys ≡ n
  pub value : (p : ℕ) → p < n → key_at keys p ≡ (get_or tasks p 0, adjusted_at times p, p)

-- the key at an index
pub made_at : (tasks : List ℕ) (keys : List Key) (p : ℕ) → AreInLineOrder tasks keys → p < length keys → key_at keys p ≡ (get_or tasks p 0, adjusted_at (key_times keys) p, p)
made_at tasks keys p a lt = λ i. (a.task p lt i, time i, a.place p lt i)
  where
    time : (key_at keys p).1 ≡ adjusted_at (key_times keys) p
    time = sym (get_or-map (λ (k : Key). k.1) keys p no_key (pos 0) lt)

pub made_to : (tasks : List ℕ) (keys : List Key) → AreInLineOrder tasks keys → AreMadeTo tasks (key_times keys) (length tasks) keys
made_to tasks keys a = record { each = a.each; value = λ p lt. let e : length keys ≡ length tasks = a.each in made_at tasks keys p a (omega arith) }

-- the order in which keys are sorted
abbrev pub key_cmp : Key → Key → Ordering
key_cmp a b = ordering_then (ordering_then (nat_cmp a.0 b.0) (int_cmp a.1 b.1)) (nat_cmp a.2 b.2)

key_total : IsTotalOrder key_cmp
key_total = then_total (then_total (on_total (λ (k : Key). k.0) nat_cmp_total) (on_total (λ (k : Key). k.1) int_cmp_total)) (on_total (λ (k : Key). k.2) nat_cmp_total)

-- of two keys with different places, the one that is not less is after the other
key_rises : (a b : Key) → is_lt (key_cmp b a) ≡ false → eqb a.2 b.2 ≡ false → IsKeyBefore a b
key_rises a b h d = go (nat_cmp b.0 a.0) (int_cmp b.1 a.1) (nat_cmp b.2 a.2) (ranked b.0 a.0 (nat_cmp b.0 a.0) refl) (int_ranked b.1 a.1 (int_cmp b.1 a.1) refl) (ranked b.2 a.2 (nat_cmp b.2 a.2) refl) h
  where
    go : (o p q : Ordering) → MatchOrdering o (b.0 < a.0) (b.0 ≡ a.0) (a.0 < b.0) → MatchOrdering p (b.1 <ℤ a.1) (b.1 ≡ a.1) (a.1 <ℤ b.1) → MatchOrdering q (b.2 < a.2) (b.2 ≡ a.2) (a.2 < b.2) → is_lt (ordering_then (ordering_then o p) q) ≡ false → IsKeyBefore a b
    go Less p q x y z h = absurd (false≢true (sym h))
    go Greater p q x y z h = inl x
    go Equal Less q x y z h = absurd (false≢true (sym h))
    go Equal Greater q x y z h = inr (sym x, inl y)
    go Equal Equal Less x y z h = absurd (false≢true (sym h))
    go Equal Equal Equal x y z h = absurd (false≢true (sym d ∙ eq-eqb a.2 b.2 (sym z)))
    go Equal Equal Greater x y z h = inr (sym x, inr (sym y, z))

place_flips : (x y : Key) → eqb x.2 y.2 ≡ eqb y.2 x.2
place_flips x y = grind (arith, nat_tests)

-- a key is that of the event at its place
abbrev IsOwn : List ℕ → List ℤ → Key → Type 0
IsOwn tasks times k = (get_or tasks k.2 0 ≡ k.0) × (adjusted_at times k.2 ≡ k.1) × (k.2 < length tasks)

pub keys_done : (tasks : List ℕ) (times : List ℤ) (n : ℕ) (made keys : List Key) → AreMadeTo tasks times n made → n ≡ length tasks → IsPermutation made keys → IsSorted key_cmp keys → AreKeys tasks times keys
keys_done tasks times n made keys a all moved sorted = record {
  right = λ p lt. All-get_or (IsOwn tasks times) keys p no_key lt owned;
  all = λ k lt. at k (omega arith) (Contains-permutation made keys (key_at made k) moved (Contains-get_or made k no_key (let e : length made ≡ n = a.each in omega arith)));
  each = length_permutation made keys moved ∙ (a.each ∙ all);
  rising = λ p q lt within. key_rises (key_at keys p) (key_at keys q)
      (sorted_far (λ (x y : Key). is_lt (key_cmp x y)) (ranks_by key_total (λ (k : Key). k)) keys sorted p q no_key (omega arith) within)
      (apart_from_distinct (λ (x y : Key). eqb x.2 y.2) keys p q no_key distinct lt within);
}
  where
    own : (p : ℕ) → p < length made → IsOwn tasks times (key_at made p)
    own p lt = let e : length made ≡ n = a.each in subst (IsOwn tasks times) (sym (a.value p (omega arith))) (refl, refl, omega arith)

    owned : All (IsOwn tasks times) keys
    owned = All-permutation (IsOwn tasks times) made keys moved (All-from_get_or (IsOwn tasks times) made no_key own)

    at : (k : ℕ) → k < n → Contains keys (key_at made k) → (p : ℕ) × (p < length keys) × ((key_at keys p).2 ≡ k)
    at k lt (p, within, is) = (p, within, ap (λ (x : Key). x.2) (get_or_default keys p no_key (key_at made k) within ∙ (is ∙ a.value k lt)))

    made_apart : (i j : ℕ) (d : Key) → i < j → j < length made → eqb (get_or made i d).2 (get_or made j d).2 ≡ false
    made_apart i j d lt within =
        let e : length made ≡ n = a.each in
        let pi : (get_or made i d).2 ≡ i = ap (λ (x : Key). x.2) (get_or_default made i d no_key (omega arith) ∙ a.value i (omega arith)) in
        let pj : (get_or made j d).2 ≡ j = ap (λ (x : Key). x.2) (get_or_default made j d no_key within ∙ a.value j (omega arith)) in
        rw (pi, pj) (grind (arith, nat_tests))

    distinct : IsDistinct (λ (x y : Key). eqb x.2 y.2) keys
    distinct = IsDistinct-IsPermutation (λ (x y : Key). eqb x.2 y.2) place_flips made keys moved (IsDistinct-from_apart (λ (x y : Key). eqb x.2 y.2) made made_apart)
