-- Marks by the places of elements in rising lists.
use Rattle.std.proofs.Common.{◌≡◌, ◌⊎◌, ℕ, zero, suc, ◌<◌, ◌≤◌, List, [], ◌∷◌, ◌++◌, map, take, get_or, refl, sym, ap, ◌∙◌, subst, ⊎_elim, inl, inr, arith, Ordering, Option, Some, None, append-nil, append_assoc}
use Rattle.std.specs.Prelude.{slice_get}
use Rattle.std.specs.declared.cmp.Ordering.TheVariants.{Less, Equal}
use Rattle.std.specs.List.{AllZip, Contains}
use Rattle.std.specs.Option.{option_map_or}
use Rattle.std.proofs.lemmas.Bool.{cases_lt}
use Rattle.std.proofs.lemmas.Cmp.{tied_itself}
use Rattle.std.proofs.lemmas.Option.{get_or_from_slice_get, slice_get_within}
use Rattle.digest_facts.specs.Digests.{Rises, TellsApart}
use Rattle.digest_facts.specs.Tables.{rows_from}
use Rattle.digest_facts.proofs.UnionLemmas.{cons_here, cons_there, head_before, pairs_tail}
use Rattle.digest_merging.specs.inner.MergedRows.{ArePlaces, IsPlaceIn, joined_mark, mark_by, mark_of, placed_rows}
use Rattle.digest_merging.specs.declared.places.Places.{Places}

-- an element at a place is in the list
pub at_place : {X : Type 0} (xs : List X) (i : ℕ) (x : X) → slice_get xs i ≡ Some x → Contains xs x
at_place xs i x e = (i, slice_get_within xs i x e, get_or_from_slice_get xs i x x e)

-- the row at a place
row_at : {X : Type 0} (f : X → X → ℕ) (earlier xs : List X) (k : ℕ) (x : X) → slice_get xs k ≡ Some x → slice_get (rows_from f earlier xs) k ≡ Some (x, map (λ a. f a x) (earlier ++ take k xs))
row_at f earlier [] k x e = let n : None ≡ Some x = e in cc
row_at {X} f earlier (y ∷ ys) zero x e =
    let same : y ≡ x = cc in
    rw same (ap (λ (l : List X). Some (x, map (λ a. f a x) l)) (sym (append-nil earlier)))
row_at {X} f earlier (y ∷ ys) (suc k) x e =
    row_at f (earlier ++ y ∷ []) ys k x e ∙ ap (λ (l : List X). Some (x, map (λ a. f a x) l)) (append_assoc earlier (y ∷ []) (take k ys))

-- the mark in a row
mark_at : {X : Type 0} (g : X → ℕ) (xs : List X) (i k : ℕ) (a : X) → i < k → slice_get xs i ≡ Some a → slice_get (map g (take k xs)) i ≡ Some (g a)
mark_at g [] i k a lt e = let n : None ≡ Some a = e in cc
mark_at g (y ∷ ys) i zero a lt e = absurd (omega arith)
mark_at g (y ∷ ys) zero (suc k) a lt e = ap (λ o. option_map_or (λ z. Some (g z)) o None) e
mark_at g (y ∷ ys) (suc i) (suc k) a lt e = mark_at g ys i k a (omega arith) e

mark_in_rows : {X : Type 0} (f : X → X → ℕ) (xs : List X) (i k : ℕ) (a b : X) → slice_get xs i ≡ Some a → slice_get xs k ≡ Some b → i < k → mark_of (rows_from f [] xs) (Some i) (Some k) ≡ f a b
mark_in_rows {X} f xs i k a b e h lt =
    rw (row_at f [] xs k b h) (rw (mark_at (λ (z : X). f z b) xs i k a lt e) refl)

module _ {X : Type 0} (cmp : X → X → Ordering) (o : TellsApart cmp) where
  -- of two elements of a rising list the lower stands first
  stands_first : (xs : List X) (i k : ℕ) (a b : X) → Rises cmp xs → slice_get xs i ≡ Some a → slice_get xs k ≡ Some b → cmp a b ≡ Less → i < k
  stands_first xs i k a b up e h less = ⊎_elim
      (λ (lt : i < k). lt)
      (λ (ge : k ≤ i). absurd (not_lower ge))
      (cases_lt i k)
    where
      at_i : get_or xs i a ≡ a
      at_i = get_or_from_slice_get xs i a a e

      at_k : get_or xs k a ≡ b
      at_k = get_or_from_slice_get xs k b a h

      turned : cmp b a ≡ Less → ⊥
      turned l = let z : cmp a a ≡ Less = o.total.trans a b a less l in let t : cmp a a ≡ Equal = tied_itself o.total a in let q : Less ≡ Equal = sym z ∙ t in cc

      not_lower : k ≤ i → ⊥
      not_lower ge = ⊎_elim
          (λ (lt : k < i). turned (subst (λ (v : X). cmp v a ≡ Less) at_k (subst (λ (v : X). cmp (get_or xs k a) v ≡ Less) at_i (up k i a lt (slice_get_within xs i a e)))))
          (λ (s : i ≤ k). let same : i ≡ k = omega arith in
          let one : a ≡ b = sym at_i ∙ ap (λ (n : ℕ). get_or xs n a) same ∙ at_k in
          turned (subst (λ (v : X). cmp v a ≡ Less) one (subst (λ (v : X). cmp a v ≡ Less) (sym one) less)))
          (cases_lt k i)

  -- the mark of two elements, by their places
  pub mark_is : (f : X → X → ℕ) (xs : List X) → Rises cmp xs → ((a b : X) → (Contains xs a → ⊥) ⊎ (Contains xs b → ⊥) → f a b ≡ 46) → (a b : X) (p q : Option ℕ) → cmp a b ≡ Less → IsPlaceIn xs a p → IsPlaceIn xs b q → mark_of (rows_from f [] xs) p q ≡ f a b
  mark_is f xs up out a b None q less ap aq = sym (out a b (inl ap))
  mark_is f xs up out a b (Some i) None less ap aq = sym (out a b (inr aq))
  mark_is f xs up out a b (Some i) (Some k) less ap aq = mark_in_rows f xs i k a b ap aq (stands_first xs i k a b up ap aq less)

  -- rows by places are rows of a list
  placed_are : (R : X → Places → Type 0) (F : Places → Places → ℕ) (h : X → X → ℕ) → ((a b : X) (p q : Places) → cmp a b ≡ Less → R a p → R b q → F p q ≡ h a b)
      → (earlier : List X) (eps : List Places) (zs : List X) (ps : List Places) → AllZip R earlier eps → AllZip R zs ps → ((a z : X) → Contains earlier a → Contains zs z → cmp a z ≡ Less) → Rises cmp zs
      → placed_rows F eps zs ps ≡ rows_from h earlier zs
  placed_are R F h each earlier eps [] ps ez zz before up = refl
  placed_are R F h each earlier eps (z ∷ zs) [] ez zz before up = absurd zz
  placed_are R F h each earlier eps (z ∷ zs) (p ∷ ps) ez zz before up =
      ap (λ (ms : List ℕ). (z, ms) ∷ placed_rows F (eps ++ p ∷ []) zs ps) (marks earlier eps ez (λ a c. before a z c (cons_here z zs)))
      ∙ ap (λ (rest : List (X × List ℕ)). (z, map (λ a. h a z) earlier) ∷ rest)
      (placed_are R F h each (earlier ++ z ∷ []) (eps ++ p ∷ []) zs ps (pushed earlier eps ez) zz.1 behind (pairs_tail (λ (a b : X). cmp a b ≡ Less) z zs up))
    where
      marks : (es : List X) (qs : List Places) → AllZip R es qs → ((a : X) → Contains es a → cmp a z ≡ Less) → map (λ q. F q p) qs ≡ map (λ a. h a z) es
      marks [] [] m lower = refl
      marks [] (q ∷ qs) m lower = absurd m
      marks (e ∷ es) [] m lower = absurd m
      marks (e ∷ es) (q ∷ qs) m lower =
          ap (λ (n : ℕ). n ∷ map (λ r. F r p) qs) (each e z q p (lower e (cons_here e es)) m.0 zz.0)
          ∙ ap (λ (l : List ℕ). h e z ∷ l) (marks es qs m.1 (λ a c. lower a (cons_there e es a c)))

      pushed : (es : List X) (qs : List Places) → AllZip R es qs → AllZip R (es ++ z ∷ []) (qs ++ p ∷ [])
      pushed [] [] m = (zz.0, tt)
      pushed [] (q ∷ qs) m = absurd m
      pushed (e ∷ es) [] m = absurd m
      pushed (e ∷ es) (q ∷ qs) m = (m.0, pushed es qs m.1)

      last_cases : (es : List X) (a : X) → Contains (es ++ z ∷ []) a → Contains es a ⊎ (z ≡ a)
      last_cases [] a (zero, lt, is) = inr is
      last_cases [] a (suc k, lt, is) = absurd (omega arith)
      last_cases (e ∷ es) a (zero, lt, is) = inl (zero, omega arith, is)
      last_cases (e ∷ es) a (suc k, lt, is) = ⊎_elim
          (λ (c : Contains es a). inl (cons_there e es a c))
          (λ (q : z ≡ a). inr q)
          (last_cases es a (k, omega arith, is))

      behind : (a y : X) → Contains (earlier ++ z ∷ []) a → Contains zs y → cmp a y ≡ Less
      behind a y c d = ⊎_elim
          (λ (k : Contains earlier a). before a y k (cons_there z zs y d))
          (λ (k : z ≡ a). subst (λ (v : X). cmp v y ≡ Less) k (head_before (λ (u v : X). cmp u v ≡ Less) z zs y up d))
          (last_cases earlier a c)

  -- rows of two tables by places are the rows of a list with the marks of both
  pub merged_are : (f g h : X → X → ℕ) (xs ys zs : List X) (ps : List Places) → Rises cmp xs → Rises cmp ys → Rises cmp zs
      → ((a b : X) → (Contains xs a → ⊥) ⊎ (Contains xs b → ⊥) → f a b ≡ 46) → ((a b : X) → (Contains ys a → ⊥) ⊎ (Contains ys b → ⊥) → g a b ≡ 46)
      → ((a b : X) → joined_mark (f a b) (g a b) ≡ h a b) → AllZip (ArePlaces xs ys) zs ps
      → placed_rows (mark_by (rows_from f [] xs) (rows_from g [] ys)) [] zs ps ≡ rows_from h [] zs
  merged_are f g h xs ys zs ps upx upy upz outf outg both places = placed_are (ArePlaces xs ys) (mark_by (rows_from f [] xs) (rows_from g [] ys)) h
      (λ a b p q less m n.
      ap (λ (v : ℕ). joined_mark v (mark_of (rows_from g [] ys) p.right q.right)) (mark_is f xs upx outf a b p.left q.left less m.0 n.0)
      ∙ ap (λ (v : ℕ). joined_mark (f a b) v) (mark_is g ys upy outg a b p.right q.right less m.1 n.1) ∙ both a b)
      [] [] zs ps tt places (λ a z c d. absurd (nil_none a c)) upz
    where
      nil_none : (a : X) → Contains [] a → ⊥
      nil_none a c = let lt : c.0 < 0 = c.1 in absurd (omega arith)
