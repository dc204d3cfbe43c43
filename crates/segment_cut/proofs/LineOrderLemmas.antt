-- Keys that rise, each the key of an event: where there are as many as events, they are all keys in order.
use Rattle.std.proofs.Common.{◌≡◌, ℕ, zero, suc, ◌+◌, ◌-◌, ◌<◌, ◌≤◌, ℤ, Bool, true, false, eqb, List, [], ◌∷◌, ◌++◌, length, get_or, map, Contains, arith, refl, sym, ap, ◌∙◌, subst, ⊎_elim, inl, inr}
use Rattle.std.specs.List.{list_any}
use Rattle.std.proofs.lemmas.Bool.{cases_lt, eqb-true, eq-eqb, ne_eqb, false≢true}
use Rattle.std.proofs.lemmas.Int.{ints}
use Rattle.std.proofs.lemmas.List.{get_or-map, length-map, get_or_append_left, get_or_push, length_push}
use Rattle.std.proofs.lemmas.List.Folds.{list_any_at}
use Rattle.std.proofs.lemmas.Map.Keys.{IsDistinct-from_apart}
use Rattle.std.proofs.lemmas.Map.Steps.{length-le_from_distinct_below}
use Rattle.std.proofs.lemmas.Map.Views.{Contains-from_any}
use Rattle.segment_cut.specs.AdjustedTimes.{adjusted_at}
use Rattle.segment_cut.specs.inner.Keys.{Key, no_key, key_at, IsKeyBefore, AreKeys}

-- the keys are of events, and rise
pub record AreRising (tasks : List ℕ) (times : List ℤ) (keys : List Key) : Type 0 where
  pub right : (p : ℕ) → p < length keys → (get_or tasks (key_at keys p).2 0 ≡ (key_at keys p).0) × (adjusted_at times (key_at keys p).2 ≡ (key_at keys p).1) × ((key_at keys p).2 < length tasks)
  pub rising : (p q : ℕ) → p < q → q < length keys → IsKeyBefore (key_at keys p) (key_at keys q)

pub rising_none : (tasks : List ℕ) (times : List ℤ) → AreRising tasks times []
rising_none tasks times = record { right = λ p lt. absurd (omega arith); rising = λ p q lt within. absurd (omega arith) }

before_before : (a b c : Key) → IsKeyBefore a b → IsKeyBefore b c → IsKeyBefore a c
before_before a b c (inl x) (inl y) = inl (omega arith)
before_before a b c (inl x) (inr y) = let e : b.0 ≡ c.0 = y.0 in inl (omega arith)
before_before a b c (inr x) (inl y) = let e : a.0 ≡ b.0 = x.0 in inl (omega arith)
before_before a b c (inr (e, inl x)) (inr (f, inl y)) = inr (e ∙ f, inl (omega (arith, ints)))
before_before a b c (inr (e, inl x)) (inr (f, inr y)) = let g : b.1 ≡ c.1 = y.0 in inr (e ∙ f, inl (omega (arith, ints)))
before_before a b c (inr (e, inr x)) (inr (f, inl y)) = let g : a.1 ≡ b.1 = x.0 in inr (e ∙ f, inl (omega (arith, ints)))
before_before a b c (inr (e, inr x)) (inr (f, inr y)) = let u : a.2 < b.2 = x.1 in let v : b.2 < c.2 = y.1 in inr (e ∙ f, inr (x.0 ∙ y.0, omega arith))

-- no key is before one with all the same parts
not_before : (a b : Key) → a.0 ≡ b.0 → a.1 ≡ b.1 → a.2 ≡ b.2 → IsKeyBefore a b → ⊥
not_before a b e f g (inl x) = absurd (omega arith)
not_before a b e f g (inr (h, inl x)) = absurd (omega (arith, ints))
not_before a b e f g (inr (h, inr x)) = let lt : a.2 < b.2 = x.1 in absurd (omega arith)

-- a key more, after the last
pub rising_push : (tasks : List ℕ) (times : List ℤ) (keys : List Key) (at : ℕ) (key : Key) → AreRising tasks times keys → at < length tasks → key ≡ (get_or tasks at 0, adjusted_at times at, at)
    → (0 < length keys → IsKeyBefore (key_at keys (length keys - 1)) key) → AreRising tasks times (keys ++ key ∷ [])
rising_push tasks times keys at key a lt is after = record {
  right = λ p within. ⊎_elim
      (λ (below : p < length keys). rw (old p below) (a.right p below))
      (λ (above : length keys ≤ p).
      let here : key_at (keys ++ key ∷ []) p ≡ (get_or tasks at 0, adjusted_at times at, at) = new p within above ∙ is in
      rw here (refl, refl, lt))
      (cases_lt p (length keys));
  rising = λ p q low within. ⊎_elim
      (λ (below : q < length keys). rw (old p (omega arith), old q below) (a.rising p q low below))
      (λ (above : length keys ≤ q).
      let more : length (keys ++ key ∷ []) ≡ length keys + 1 = length_push keys key in
      rw (old p (omega arith), new q within above) (last p (omega arith)))
      (cases_lt q (length keys));
}
  where
    old : (p : ℕ) → p < length keys → key_at (keys ++ key ∷ []) p ≡ key_at keys p
    old p below = get_or_append_left keys (key ∷ []) no_key p below

    new : (p : ℕ) → p < length (keys ++ key ∷ []) → length keys ≤ p → key_at (keys ++ key ∷ []) p ≡ key
    new p within above = let more : length (keys ++ key ∷ []) ≡ length keys + 1 = length_push keys key in get_or_push keys key no_key p (omega arith)

    last : (p : ℕ) → p < length keys → IsKeyBefore (key_at keys p) key
    last p below = ⊎_elim
        (λ (lower : p < length keys - 1). before_before (key_at keys p) (key_at keys (length keys - 1)) key (a.rising p (length keys - 1) lower (omega arith)) (after (omega arith)))
        (λ (same : length keys - 1 ≤ p). let e : length keys - 1 ≡ p = omega arith in subst (λ (i : ℕ). IsKeyBefore (key_at keys i) key) e (after (omega arith)))
        (cases_lt p (length keys - 1))

-- as many keys as events are the keys of all events
pub rising_all : (tasks : List ℕ) (times : List ℤ) (keys : List Key) → AreRising tasks times keys → length keys ≡ length tasks → AreKeys tasks times keys
rising_all tasks times keys a each = record {
  right = a.right;
  all = λ k lt. at k lt (list_any (eqb k) places) refl;
  each = each;
  rising = a.rising;
}
  where
    places : List ℕ
    places = map (λ (k : Key). k.2) keys

    many : length places ≡ length keys
    many = length-map keys (λ (k : Key). k.2)

    place_is : (p d : ℕ) → p < length keys → get_or places p d ≡ (key_at keys p).2
    place_is p d lt = get_or-map (λ (k : Key). k.2) keys p no_key d lt

    apart : (p q : ℕ) → p < q → q < length keys → (key_at keys p).2 ≡ (key_at keys q).2 → ⊥
    apart p q low within same =
        let rp = a.right p (omega arith) in
        let rq = a.right q within in
        not_before (key_at keys p) (key_at keys q) (sym rp.0 ∙ (ap (λ i. get_or tasks i 0) same ∙ rq.0)) (sym rp.1 ∙ (ap (adjusted_at times) same ∙ rq.1)) same (a.rising p q low within)

    distinct : (k : ℕ) → list_any (eqb k) places ≡ false → (i j : ℕ) (d : ℕ) → i < j → j < length (k ∷ places) → eqb (get_or (k ∷ places) i d) (get_or (k ∷ places) j d) ≡ false
    distinct k none i zero d low within = absurd (omega arith)
    distinct k none zero (suc j) d low within = ne_eqb k (get_or places j d) (λ same. false≢true (sym none ∙ list_any_at (eqb k) places j d (omega arith) (eq-eqb k (get_or places j d) same)))
    distinct k none (suc i) (suc j) d low within =
        let m = many in
        let lj : j < length keys = omega arith in
        ne_eqb (get_or places i d) (get_or places j d) (λ same. apart i j (omega arith) lj (sym (place_is i d (omega arith)) ∙ (same ∙ place_is j d lj)))

    low_places : (k : ℕ) → k < length tasks → (q : ℕ) → list_any (eqb q) (k ∷ places) ≡ true → q < length tasks
    low_places k lt q h = within (Contains-from_any (λ x y e. eqb-true x y e) q (k ∷ places) h)
      where
        within : Contains (k ∷ places) q → q < length tasks
        within (zero, l, is) = let e : k ≡ q = is in omega arith
        within (suc p, l, is) =
            let m = many in
            let lp : p < length keys = omega arith in
            let e : (key_at keys p).2 ≡ q = sym (place_is p q lp) ∙ is in
            let low : (key_at keys p).2 < length tasks = (a.right p lp).2 in
            omega arith

    at : (k : ℕ) → k < length tasks → (b : Bool) → list_any (eqb k) places ≡ b → (p : ℕ) × (p < length keys) × ((key_at keys p).2 ≡ k)
    at k lt true h = found (Contains-from_any (λ x y e. eqb-true x y e) k places h)
      where
        found : Contains places k → (p : ℕ) × (p < length keys) × ((key_at keys p).2 ≡ k)
        found (p, l, is) = let m = many in let lp : p < length keys = omega arith in (p, lp, sym (place_is p k lp) ∙ is)
    at k lt false h =
        let m = many in
        let low : length (k ∷ places) ≤ length tasks = length-le_from_distinct_below (k ∷ places) (length tasks) (IsDistinct-from_apart eqb (k ∷ places) (distinct k h)) (low_places k lt) in
        let more : suc (length places) ≤ length tasks = low in
        absurd (omega arith)
