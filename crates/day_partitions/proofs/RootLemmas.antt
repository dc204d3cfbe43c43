-- The root of a tree whose inner rows are meets has what all leaves have in common.
use Rattle.std.proofs.Common.{◌≡◌, ℕ, zero, suc, ◌+◌, ◌-◌, ◌*◌, ◌<◌, ◌≤◌, min, ◌⊎◌, inl, inr, Bool, true, ◌&&◌, nat_lt, List, [], ◌∷◌, ◌++◌, get_or, Option, Some, None, unwrap_or, refl, sym, ap, ◌∙◌, arith, subst}
use Rattle.std.proofs.lemmas.Bool.{cases_eq, and_parts, ltb-true}
use Rattle.std.proofs.lemmas.List.{get_or-replicate, length-map, get_or_default}
use Rattle.std.proofs.lemmas.Nat.Bits.{bit_at_ones}
use Rattle.std.specs.Int.{bit_at}
use Rattle.std.specs.Option.{option_map}
use Rattle.word_rows.specs.Words.{bit_of, full_words as full}
use Rattle.row_pool.specs.Pools.{Pool, row_at}
use Rattle.day_partitions.specs.inner.Trees.{AreCommon, leaf_bit}
use Rattle.day_partitions.specs.inner.Nodes.{id_at, IsTree, leaf_rows}
use Rattle.day_partitions.proofs.LeafLemmas.{get_rows}
use Rattle.day_partitions.proofs.PlaceLemmas.{id_leaf, id_last}

full_bit : (width i b : ℕ) → i < width → b < 64 → bit_of (full width) i b ≡ 1
full_bit width i b h l = ap (λ (n : ℕ). bit_at n b) (get_or-replicate width i 18446744073709551615 0 h) ∙ bit_at_ones 64 b l

-- some number of the list is 0
abbrev HasZero : List ℕ → Type 0
HasZero [] = ⊥
HasZero (x ∷ xs) = (x ≡ 0) ⊎ HasZero xs

zero_left : (xs ys : List ℕ) → HasZero xs → HasZero (xs ++ ys)
zero_left [] ys h = absurd h
zero_left (x ∷ xs) ys (inl h) = inl h
zero_left (x ∷ xs) ys (inr h) = inr (zero_left xs ys h)

zero_right : (xs ys : List ℕ) → HasZero ys → HasZero (xs ++ ys)
zero_right [] ys h = h
zero_right (x ∷ xs) ys h = inr (zero_right xs ys h)

zero_append : (xs ys : List ℕ) → HasZero (xs ++ ys) → HasZero xs ⊎ HasZero ys
zero_append [] ys h = inr h
zero_append (x ∷ xs) ys (inl h) = inl (inl h)
zero_append (x ∷ xs) ys (inr h) = elim (zero_append xs ys h) [ inl a ↦ inl (inr a) | inr b ↦ inr b ]

min_zero : (a b : ℕ) → min a b ≡ 0 → (a ≡ 0) ⊎ (b ≡ 0)
min_zero a b e = elim (cases_eq a 0) [ inl h ↦ inl h | inr h ↦ inr (omega arith) ]

-- the n-th node is within an inner part of 63, d levels deep
abbrev fits : ℕ → ℕ → Bool
fits zero n = true
fits (suc d) n = nat_lt 0 n && (nat_lt n 64 && (fits d (2 * n) && fits d (2 * n + 1)))

module _ (V : ℕ → ℕ) where
  -- the nodes d levels below n
  abbrev under : ℕ → ℕ → List ℕ
  under zero n = V n ∷ []
  under (suc d) n = under d (2 * n) ++ under d (2 * n + 1)

  abbrev AreMinima : Type 0
  AreMinima = (m : ℕ) → 1 ≤ m → m < 64 → V m ≡ min (V (2 * m)) (V (2 * m + 1))

  zero_down : (d n : ℕ) → fits d n ≡ true → AreMinima → V n ≡ 0 → HasZero (under d n)
  zero_down zero n f met e = inl e
  zero_down (suc d) n f met e =
      let a = and_parts (nat_lt 0 n) _ f in
      let b = and_parts (nat_lt n 64) _ a.1 in
      let c = and_parts (fits d (2 * n)) _ b.1 in
      elim (min_zero (V (2 * n)) (V (2 * n + 1)) (sym (met n (ltb-true 0 n a.0) (ltb-true n 64 b.0)) ∙ e)) [
        | inl h ↦ zero_left (under d (2 * n)) (under d (2 * n + 1)) (zero_down d (2 * n) c.0 met h)
        | inr h ↦ zero_right (under d (2 * n)) (under d (2 * n + 1)) (zero_down d (2 * n + 1) c.1 met h)
      ]

  zero_up : (d n : ℕ) → fits d n ≡ true → AreMinima → HasZero (under d n) → V n ≡ 0
  zero_up zero n f met (inl e) = e
  zero_up zero n f met (inr e) = absurd e
  zero_up (suc d) n f met h =
      let a = and_parts (nat_lt 0 n) _ f in
      let b = and_parts (nat_lt n 64) _ a.1 in
      let c = and_parts (fits d (2 * n)) _ b.1 in
      let m = met n (ltb-true 0 n a.0) (ltb-true n 64 b.0) in
      elim (zero_append (under d (2 * n)) (under d (2 * n + 1)) h) [
        | inl l ↦ let z = zero_up d (2 * n) c.0 met l in omega (arith, m, z)
        | inr r ↦ let z = zero_up d (2 * n + 1) c.1 met r in omega (arith, m, z)
      ]

  abbrev values_from : ℕ → ℕ → List ℕ
  values_from s zero = []
  values_from s (suc c) = V s ∷ values_from (s + 1) c

  zero_at : (s c : ℕ) → HasZero (values_from s c) → (n : ℕ) × (s ≤ n) × (n < s + c) × (V n ≡ 0)
  zero_at s zero h = absurd h
  zero_at s (suc c) (inl e) = (s, omega arith, omega arith, e)
  zero_at s (suc c) (inr h) = let r = zero_at (s + 1) c h in (r.0, omega (arith, r.1), omega (arith, r.2), r.3)

  zero_from : (s c n : ℕ) → s ≤ n → n < s + c → V n ≡ 0 → HasZero (values_from s c)
  zero_from s zero n low high e = absurd (omega arith)
  zero_from s (suc c) n low high e = elim (cases_eq n s) [
    | inl same ↦ inl (sym (ap V same) ∙ e)
    | inr other ↦ inr (zero_from (s + 1) c n (omega arith) (omega arith) e)
  ]

  -- the root is 0 exactly where some leaf is
  root_down : AreMinima → V 1 ≡ 0 → (n : ℕ) × (64 ≤ n) × (n < 128) × (V n ≡ 0)
  root_down met e =
      let same : under 6 1 ≡ values_from 64 64 = refl in
      zero_at 64 64 (subst (λ l. HasZero l) same (zero_down 6 1 refl met e))

  root_up : AreMinima → (n : ℕ) → 64 ≤ n → n < 128 → V n ≡ 0 → V 1 ≡ 0
  root_up met n low high e =
      let same : under 6 1 ≡ values_from 64 64 = refl in
      zero_up 6 1 refl met (subst (λ l. HasZero l) (sym same) (zero_from 64 64 n low high e))

leaf_value : (p : Pool) (nodes : List ℕ) (ls : List (Option ℕ)) (i b k : ℕ) → IsTree p nodes ls → i < p.width → b < 64 → k < 64 → leaf_bit i b (get_or (leaf_rows p ls) k None) ≡ bit_of (row_at p (id_at nodes ls (64 + k))) i b
leaf_value p nodes ls i b k t h l below =
    let back : 64 + k - 64 ≡ k = omega arith in
    let at : id_at nodes ls (64 + k) ≡ unwrap_or (get_or ls k None) (get_or nodes 65 0) = id_leaf nodes ls (64 + k) (omega arith) (omega arith) ∙ ap (λ j. unwrap_or (get_or ls j None) (get_or nodes 65 0)) back in
    let last : bit_of (row_at p (get_or nodes 65 0)) i b ≡ 1 = ap (λ x. bit_of (row_at p x) i b) (sym (id_last nodes ls 129 (omega arith))) ∙ ap (λ ws. bit_of ws i b) t.rows.blank ∙ full_bit p.width i b h l in
    ap (leaf_bit i b) (get_rows (row_at p) ls k) ∙ by_cases (get_or ls k None) (get_or nodes 65 0) last ∙ sym (ap (λ x. bit_of (row_at p x) i b) at)
  where
    by_cases : (o : Option ℕ) (d : ℕ) → bit_of (row_at p d) i b ≡ 1 → leaf_bit i b (option_map (row_at p) o) ≡ bit_of (row_at p (unwrap_or o d)) i b
    by_cases None d e = sym e
    by_cases (Some x) d e = refl

pub root_common : (p : Pool) (nodes : List ℕ) (ls : List (Option ℕ)) → IsTree p nodes ls → AreCommon (leaf_rows p ls) (row_at p (id_at nodes ls 1))
root_common p nodes ls t =
    record {
      bits = λ i b h l.
          let V : ℕ → ℕ = λ n. bit_of (row_at p (id_at nodes ls n)) i b in
          let wide : i < p.width = omega (arith, t.rows.long 1 (omega arith)) in
          let met : AreMinima V = λ m low high. (t.met m low high (λ e. omega arith)).bits i b (omega (arith, t.rows.long (2 * m) (omega arith))) l in
          let size = length-map ls (option_map (row_at p)) in (
            λ e. let r = root_down V met e in
                let k = r.0 - 64 in
                let back : 64 + k ≡ r.0 = omega (arith, r.1) in
                let below : k < 64 = omega (arith, r.2) in
                let value = leaf_value p nodes ls i b k t wide l below ∙ ap V back ∙ r.3 in
                let leaf = get_or (leaf_rows p ls) k None in
                (k, leaf, omega (arith, size, t.rows.all_leaves), get_or_default (leaf_rows p ls) k leaf None (omega (arith, size, t.rows.all_leaves)), value),
            λ a. let below : a.0 < 64 = omega (arith, a.2, size, t.rows.all_leaves) in
                let leaf : get_or (leaf_rows p ls) a.0 None ≡ a.1 = get_or_default (leaf_rows p ls) a.0 None a.1 a.2 ∙ a.3 in
                root_up V met (64 + a.0) (omega arith) (omega arith) (sym (leaf_value p nodes ls i b a.0 t wide l below) ∙ ap (leaf_bit i b) leaf ∙ a.4),
          );
    }
