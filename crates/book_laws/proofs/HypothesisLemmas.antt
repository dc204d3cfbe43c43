-- Hypotheses of names and tasks, and those on the numbers that stand for these.
use Rattle.std.proofs.Common.{◌≡◌, ◌≢◌, ℕ, inl, inr, Some, List, AllPairs, ap₂, subst}
use Rattle.std.specs.List.{slice_get}
use Rattle.trace_rules.specs.Hypotheses.{Hypothesis, Before, Exclusive, Apart, Pipe, Unshared, IsSame, exchanged_hypothesis}
use Rattle.trace_types.proofs.ElementLemmas.{one_item, one_place}

-- the two stand in the list at these indices
pub record AreAt {X : Type 0} (xs : List X) (k l : ℕ) (a b : X) : Type 0 where
  pub first : slice_get xs k ≡ Some a
  pub second : slice_get xs l ≡ Some b

module _ {X : Type 0} (xs : List X) where
  exchanged_at : (k l : ℕ) (a b : X) → AreAt xs k l a b → AreAt xs l k b a
  exchanged_at k l a b h = record { first = h.second; second = h.first }

  -- indices tell the items, and items the indices
  one_pair : (k l : ℕ) (a b c d : X) → AreAt xs k l a b → AreAt xs k l c d → (a ≡ c) × (b ≡ d)
  one_pair k l a b c d h i = (one_item xs k a c h.first i.first, one_item xs l b d h.second i.second)

  one_places : AllPairs (λ x y. x ≢ y) xs → (k l m n : ℕ) (a b : X) → AreAt xs k l a b → AreAt xs m n a b → (k ≡ m) × (l ≡ n)
  one_places differ k l m n a b h i = (one_place xs differ k m a h.first i.first, one_place xs differ l n b h.second i.second)

-- the numbers of the second hypothesis are the indices of the names or tasks of the first
pub data Stands {N T : Type 0} (names : List N) (tasks : List T) : Hypothesis N T → Hypothesis ℕ ℕ → Type 0 where
  before : {a b : N} {k l : ℕ} → AreAt names k l a b → Stands names tasks (Before a b) (Before k l)
  exclusive : {a b : N} {k l : ℕ} → AreAt names k l a b → Stands names tasks (Exclusive a b) (Exclusive k l)
  apart : {a b : N} {k l : ℕ} → AreAt names k l a b → Stands names tasks (Apart a b) (Apart k l)
  pipe : {t u : T} {k l : ℕ} → AreAt tasks k l t u → Stands names tasks (Pipe t u) (Pipe k l)
  unshared : {t u : T} {k l : ℕ} → AreAt tasks k l t u → Stands names tasks (Unshared t u) (Unshared k l)

module _ {N T : Type 0} (names : List N) (tasks : List T) where
  -- numbers stand for one hypothesis
  one_text : {h i : Hypothesis N T} {r : Hypothesis ℕ ℕ} → Stands names tasks h r → Stands names tasks i r → h ≡ i
  one_text (before {a} {b} {k} {l} p) (before {a = c} {b = d} q) = let e = one_pair names k l a b c d p q in ap₂ Before e.0 e.1
  one_text (exclusive {a} {b} {k} {l} p) (exclusive {a = c} {b = d} q) = let e = one_pair names k l a b c d p q in ap₂ Exclusive e.0 e.1
  one_text (apart {a} {b} {k} {l} p) (apart {a = c} {b = d} q) = let e = one_pair names k l a b c d p q in ap₂ Apart e.0 e.1
  one_text (pipe {t} {u} {k} {l} p) (pipe {t = c} {u = d} q) = let e = one_pair tasks k l t u c d p q in ap₂ Pipe e.0 e.1
  one_text (unshared {t} {u} {k} {l} p) (unshared {t = c} {u = d} q) = let e = one_pair tasks k l t u c d p q in ap₂ Unshared e.0 e.1

  -- what stands for a hypothesis stands, exchanged, for the exchanged one
  exchanged : {h : Hypothesis N T} {r : Hypothesis ℕ ℕ} → Stands names tasks h r → Stands names tasks (exchanged_hypothesis h) (exchanged_hypothesis r)
  exchanged (before p) = before p
  exchanged (exclusive {a} {b} {k} {l} p) = exclusive (exchanged_at names k l a b p)
  exchanged (apart {a} {b} {k} {l} p) = apart (exchanged_at names k l a b p)
  exchanged (pipe p) = pipe p
  exchanged (unshared {t} {u} {k} {l} p) = unshared (exchanged_at tasks k l t u p)

  same_texts : (h i : Hypothesis N T) (r s : Hypothesis ℕ ℕ) → Stands names tasks h r → Stands names tasks i s → IsSame r s → IsSame h i
  same_texts h i r s p q (inl e) = inl (one_text (subst (λ (x : Hypothesis ℕ ℕ). Stands names tasks h x) e p) q)
  same_texts h i r s p q (inr e) = inr (one_text (subst (λ (x : Hypothesis ℕ ℕ). Stands names tasks h x) e p) (exchanged q))

  -- different hypotheses have different numbers
  pub numbers_differ : (h i : Hypothesis N T) (r s : Hypothesis ℕ ℕ) → Stands names tasks h r → Stands names tasks i s → (IsSame h i → ⊥) → IsSame r s → ⊥
  numbers_differ h i r s p q other same = other (same_texts h i r s p q same)

  module _ (dn : AllPairs (λ x y. x ≢ y) names) (dt : AllPairs (λ x y. x ≢ y) tasks) where
    one_number : {h : Hypothesis N T} {r s : Hypothesis ℕ ℕ} → Stands names tasks h r → Stands names tasks h s → r ≡ s
    one_number (before {a} {b} {k} {l} p) (before {k = m} {l = n} q) = let e = one_places names dn k l m n a b p q in ap₂ Before e.0 e.1
    one_number (exclusive {a} {b} {k} {l} p) (exclusive {k = m} {l = n} q) = let e = one_places names dn k l m n a b p q in ap₂ Exclusive e.0 e.1
    one_number (apart {a} {b} {k} {l} p) (apart {k = m} {l = n} q) = let e = one_places names dn k l m n a b p q in ap₂ Apart e.0 e.1
    one_number (pipe {t} {u} {k} {l} p) (pipe {k = m} {l = n} q) = let e = one_places tasks dt k l m n t u p q in ap₂ Pipe e.0 e.1
    one_number (unshared {t} {u} {k} {l} p) (unshared {k = m} {l = n} q) = let e = one_places tasks dt k l m n t u p q in ap₂ Unshared e.0 e.1

    same_numbers : (h i : Hypothesis N T) (r s : Hypothesis ℕ ℕ) → Stands names tasks h r → Stands names tasks i s → IsSame h i → IsSame r s
    same_numbers h i r s p q (inl e) = inl (one_number (subst (λ (x : Hypothesis N T). Stands names tasks x r) e p) q)
    same_numbers h i r s p q (inr e) = inr (one_number (subst (λ (x : Hypothesis N T). Stands names tasks x r) e p) (exchanged q))

    -- and different numbers stand for different hypotheses
    pub hypotheses_differ : (h i : Hypothesis N T) (r s : Hypothesis ℕ ℕ) → Stands names tasks h r → Stands names tasks i s → (IsSame r s → ⊥) → IsSame h i → ⊥
    hypotheses_differ h i r s p q other same = other (same_numbers h i r s p q same)
