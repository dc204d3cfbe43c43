-- The keys of all segments, made segment by segment and then sorted.
use Rattle.std.proofs.Common.{◌≡◌, ℕ, ◌+◌, ◌<◌, ◌≤◌, ◌<ℤ◌, false, eqb, eq-eqb, List, [], ◌∷◌, ◌++◌, length, get_or, All, Contains, arith, refl, sym, ap, ◌∙◌, subst, ⊎_elim, inl, inr}
use Rattle.std.specs.List.{IsDistinct}
use Rattle.std.specs.List.Sorted.{IsPermutation, IsSorted}
use Rattle.std.specs.Cmp.{IsTotalOrder}
use Rattle.std.specs.Ordering.{nat_cmp, int_cmp, is_lt, ordering_then, MatchOrdering}
use Rattle.std.specs.declared.cmp.Ordering.{Ordering}
use Rattle.std.specs.declared.cmp.Ordering.TheVariants.{Less, Equal, Greater}
use Rattle.std.proofs.lemmas.Bool.{cases_lt, false≢true}
use Rattle.std.proofs.lemmas.Bool.Decides.{nat_tests}
use Rattle.std.proofs.lemmas.Cmp.{nat_cmp_total, int_cmp_total, then_total, on_total, ranked, int_ranked}
use Rattle.std.proofs.lemmas.List.{get_or_append_left, get_or_push, length_push, get_or_default}
use Rattle.std.proofs.lemmas.Option.{slice_get_within}
use Rattle.std.proofs.lemmas.List.Elements.{All-from_get_or, All-get_or, Contains-get_or}
use Rattle.std.proofs.lemmas.List.Sorted.{All-permutation, Contains-permutation, length_permutation, sorted_far, ranks_by}
use Rattle.std.proofs.lemmas.Map.Keys.{IsDistinct-from_apart, IsDistinct-IsPermutation, apart_from_distinct}
use Rattle.trace_types.specs.declared.named_segment.NamedSegment.{NamedSegment}
use Rattle.trace_graph.specs.inner.Keys.{Key, no_key, key_at, IsKeyBefore, IsKeyOf, AreKeys}

-- a key is that of the segment at this index
abbrev pub IsKeyAt : List NamedSegment → ℕ → Key → Type 0
IsKeyAt segments i key = IsKeyOf segments key × (key.2 ≡ i)

-- the keys of the first n segments, by index
pub record AreMadeTo (segments : List NamedSegment) (n : ℕ) (keys : List Key) : Type 0 where
  pub each : length keys ≡ n
  pub value : (i : ℕ) → i < n → IsKeyAt segments i (key_at keys i)

pub made_push : (segments : List NamedSegment) (n : ℕ) (keys : List Key) (key : Key) → AreMadeTo segments n keys → IsKeyAt segments n key → AreMadeTo segments (n + 1) (keys ++ key ∷ [])
made_push segments n keys key a is = record {
  each = length_push keys key ∙ ap (λ k. k + 1) a.each;
  value = λ i lt. ⊎_elim
      (λ (below : i < n). subst (IsKeyAt segments i) (sym (get_or_append_left keys (key ∷ []) no_key i (let e : length keys ≡ n = a.each in omega arith))) (a.value i below))
      (λ (above : n ≤ i). let same : n ≡ i = omega arith in subst (IsKeyAt segments i) (sym (get_or_push keys key no_key i (a.each ∙ same))) (subst (λ (j : ℕ). IsKeyAt segments j key) same is))
      (cases_lt i n);
}

-- the order in which keys are sorted
abbrev pub key_cmp : Key → Key → Ordering
key_cmp a b = ordering_then (ordering_then (int_cmp a.0 b.0) (int_cmp a.1 b.1)) (nat_cmp a.2 b.2)

key_total : IsTotalOrder key_cmp
key_total = then_total (then_total (on_total (λ (k : Key). k.0) int_cmp_total) (on_total (λ (k : Key). k.1) int_cmp_total)) (on_total (λ (k : Key). k.2) nat_cmp_total)

-- of two keys with different indices, the one that is not less is after the other
key_rises : (a b : Key) → is_lt (key_cmp b a) ≡ false → eqb a.2 b.2 ≡ false → IsKeyBefore a b
key_rises a b h d = go (int_cmp b.0 a.0) (int_cmp b.1 a.1) (nat_cmp b.2 a.2) (int_ranked b.0 a.0 (int_cmp b.0 a.0) refl) (int_ranked b.1 a.1 (int_cmp b.1 a.1) refl) (ranked b.2 a.2 (nat_cmp b.2 a.2) refl) h
  where
    go : (o p q : Ordering) → MatchOrdering o (b.0 <ℤ a.0) (b.0 ≡ a.0) (a.0 <ℤ b.0) → MatchOrdering p (b.1 <ℤ a.1) (b.1 ≡ a.1) (a.1 <ℤ b.1) → MatchOrdering q (b.2 < a.2) (b.2 ≡ a.2) (a.2 < b.2) → is_lt (ordering_then (ordering_then o p) q) ≡ false → IsKeyBefore a b
    go Less p q x y z h = absurd (false≢true (sym h))
    go Greater p q x y z h = inl x
    go Equal Less q x y z h = absurd (false≢true (sym h))
    go Equal Greater q x y z h = inr (sym x, inl y)
    go Equal Equal Less x y z h = absurd (false≢true (sym h))
    go Equal Equal Equal x y z h = absurd (false≢true (sym d ∙ eq-eqb a.2 b.2 (sym z)))
    go Equal Equal Greater x y z h = inr (sym x, inr (sym y, z))

index_flips : (x y : Key) → eqb x.2 y.2 ≡ eqb y.2 x.2
index_flips x y = grind (arith, nat_tests)

pub keys_done : (segments : List NamedSegment) (n : ℕ) (made keys : List Key) → AreMadeTo segments n made → n ≡ length segments → IsPermutation made keys → IsSorted key_cmp keys → AreKeys segments keys
keys_done segments n made keys a all moved sorted = record {
  each = length_permutation made keys moved ∙ (a.each ∙ all);
  right = λ v lt. All-get_or (IsKeyOf segments) keys v no_key lt owned;
  all = λ i lt. at i (omega arith) (Contains-permutation made keys (key_at made i) moved (Contains-get_or made i no_key (let e : length made ≡ n = a.each in omega arith)));
  rising = λ v w lt within. key_rises (key_at keys v) (key_at keys w)
      (sorted_far (λ (x y : Key). is_lt (key_cmp x y)) (ranks_by key_total (λ (k : Key). k)) keys sorted v w no_key (omega arith) within)
      (apart_from_distinct (λ (x y : Key). eqb x.2 y.2) keys v w no_key distinct lt within);
}
  where
    own : (i : ℕ) → i < length made → IsKeyOf segments (key_at made i)
    own i lt = let e : length made ≡ n = a.each in (a.value i (omega arith)).0

    owned : All (IsKeyOf segments) keys
    owned = All-permutation (IsKeyOf segments) made keys moved (All-from_get_or (IsKeyOf segments) made no_key own)

    at : (i : ℕ) → i < n → Contains keys (key_at made i) → (v : ℕ) × (v < length keys) × ((key_at keys v).2 ≡ i)
    at i lt (v, within, is) = (v, within, ap (λ (x : Key). x.2) (get_or_default keys v no_key (key_at made i) within ∙ is) ∙ (a.value i lt).1)

    made_apart : (i j : ℕ) (d : Key) → i < j → j < length made → eqb (get_or made i d).2 (get_or made j d).2 ≡ false
    made_apart i j d lt within =
        let e : length made ≡ n = a.each in
        let pi : (get_or made i d).2 ≡ i = ap (λ (x : Key). x.2) (get_or_default made i d no_key (omega arith)) ∙ (a.value i (omega arith)).1 in
        let pj : (get_or made j d).2 ≡ j = ap (λ (x : Key). x.2) (get_or_default made j d no_key within) ∙ (a.value j (omega arith)).1 in
        rw (pi, pj) (grind (arith, nat_tests))

    distinct : IsDistinct (λ (x y : Key). eqb x.2 y.2) keys
    distinct = IsDistinct-IsPermutation (λ (x y : Key). eqb x.2 y.2) index_flips made keys moved (IsDistinct-from_apart (λ (x y : Key). eqb x.2 y.2) made made_apart)

pub key_within : (segments : List NamedSegment) (key : Key) → IsKeyOf segments key → key.2 < length segments
key_within segments key (s, got, start, end) = slice_get_within segments key.2 s got
