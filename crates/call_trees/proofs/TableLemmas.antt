-- Lists that are made by index.
use Rattle.std.proofs.Common.{◌≡◌, ℕ, ◌+◌, ◌<◌, ◌≤◌, List, [], ◌∷◌, ◌++◌, length, get_or, map, take, refl, sym, ap, ◌∙◌, arith}
use Rattle.std.specs.List.{range_with_len}
use Rattle.std.proofs.lemmas.List.{get_or-map, length-map, map_push, map_more, take_all}
use Rattle.std.proofs.lemmas.List.FromFn.{get_or-range_with_len, length-range_with_len}
use Rattle.call_trees.specs.Tables.{table_of}
use Rattle.call_trees.proofs.OrderLemmas.{range_more}

module _ {X : Type 0} (f : ℕ → X) where
  pub length-table : (n : ℕ) → length (table_of f n) ≡ n
  length-table n = length-map (range_with_len 0 n) f ∙ length-range_with_len 0 n

  pub get_or-table : (n i : ℕ) (d : X) → i < n → get_or (table_of f n) i d ≡ f i
  get_or-table n i d lt =
      get_or-map f (range_with_len 0 n) i 0 d (omega (arith, lt, length-range_with_len 0 n))
      ∙ ap f (get_or-range_with_len 0 n i 0 lt ∙ (let e : 0 + i ≡ i = omega arith in e))

  pub table-suc : (n : ℕ) → table_of f (n + 1) ≡ table_of f n ++ f n ∷ []
  table-suc n = ap (map f) (range_more 0 n ∙ ap (λ k. range_with_len 0 n ++ k ∷ []) (let e : 0 + n ≡ n = omega arith in e)) ∙ map_push f (range_with_len 0 n) n

  -- one more value of a table, seen by g
  pub table_more : {Y : Type 0} (g : Y → X) (ys new : List Y) (y : Y) (i : ℕ) → map g ys ≡ table_of f i → g y ≡ f i → new ≡ ys ++ y ∷ [] → map g new ≡ table_of f (i + 1)
  table_more g ys new y i h is step =
      ap (map g) step ∙ map_push g ys y ∙ ap (λ (xs : List X). xs ++ g y ∷ []) h ∙ ap (λ x. table_of f i ++ x ∷ []) is ∙ sym (table-suc i)

  pub table_all : {Y : Type 0} (g : Y → X) (ys : List Y) (n i : ℕ) → n ≤ i → i ≤ n → map g ys ≡ table_of f i → map g ys ≡ table_of f n
  table_all g ys n i low high h = h ∙ ap (table_of f) (let e : i ≡ n = omega arith in e)

  pub table_at : {Y : Type 0} (g : Y → X) (ys : List Y) (n i : ℕ) (y : Y) → map g ys ≡ table_of f n → i < n → y ≡ get_or ys i y → g y ≡ f i
  table_at g ys n i y h lt is =
      ap g is ∙ sym (get_or-map g ys i y (g y) (omega (arith, lt, ap length h, length-map ys g, length-table n)))
      ∙ ap (λ (xs : List X). get_or xs i (g y)) h ∙ get_or-table n i (g y) lt

  pub length_from_table : {Y : Type 0} (g : Y → X) (ys : List Y) (n : ℕ) → map g ys ≡ table_of f n → length ys ≡ n
  length_from_table g ys n h = sym (length-map ys g) ∙ ap length h ∙ length-table n

-- one more value of a map, each seen by g
pub mapped_more : {X Y Z : Type 0} (f : Z → X) (g : Y → X) (zs : List Z) (ys new : List Y) (y : Y) (z : Z) (i : ℕ) → i < length zs → z ≡ get_or zs i z → map g ys ≡ map f (take i zs) → g y ≡ f z → new ≡ ys ++ y ∷ [] → map g new ≡ map f (take (i + 1) zs)
mapped_more {X} f g zs ys new y z i lt at h is step =
    ap (map g) step ∙ map_push g ys y ∙ ap (λ (xs : List X). xs ++ g y ∷ []) h ∙ ap (λ x. map f (take i zs) ++ x ∷ []) (is ∙ ap f at) ∙ sym (map_more f zs i z lt)

pub mapped_all : {X Y Z : Type 0} (f : Z → X) (g : Y → X) (zs : List Z) (ys : List Y) (i : ℕ) → length zs ≤ i → map g ys ≡ map f (take i zs) → map g ys ≡ map f zs
mapped_all f g zs ys i le h = h ∙ ap (map f) (take_all i zs le)
