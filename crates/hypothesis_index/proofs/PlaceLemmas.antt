-- The parts of a relation's place, and the relation of the parts.
use Rattle.std.proofs.Common.{◌≡◌, ℕ, zero, suc, ◌+◌, ◌*◌, ◌/◌, ◌%◌, ◌<◌, ◌≤◌, nat_lt, refl, sym, ◌∙◌, ap, subst, ⊎_elim, ◌⊎◌, inl, inr, arith}
use Rattle.std.proofs.lemmas.Bool.{cases_order, cond-true, cond-false, lt-ltb, le-ltb}
use Rattle.hypothesis_index.specs.declared.relation.Relation.{Relation}
use Rattle.hypothesis_index.specs.declared.relation.Relation.TheVariants.{Before, Exclusive, Apart, Pipe, Unshared}
use Rattle.hypothesis_index.specs.declared.bit_place.BitPlace.{BitPlace}
use Rattle.hypothesis_index.specs.Places.{pairs_below, pair_number, IsRelation, pair_place, place_of, NamesBelow, width_of}
use Rattle.hypothesis_index.proofs.PairLemmas.{pairs_below-64, pairs_below-512, pair-below, same_pair}

abbrev pub relation_at : ℕ → ℕ → ℕ → ℕ → Relation
relation_at zero i j zero = Pipe i j
relation_at zero i j (suc zero) = Pipe j i
relation_at zero i j (suc (suc k)) = Unshared i j
relation_at (suc b) i j zero = Before i j
relation_at (suc b) i j (suc zero) = Before j i
relation_at (suc b) i j (suc (suc zero)) = Exclusive i j
relation_at (suc b) i j (suc (suc (suc k))) = Apart i j

pub record PlaceParts (r : Relation) : Type 0 where
  pub begin : ℕ
  pub low : ℕ
  pub high : ℕ
  pub kind : ℕ
  pub rises : low < high
  pub small : high < 512
  pub begins : ((begin ≡ 0) × (high < 64) × (kind < 3)) ⊎ ((begin ≡ 126) × (kind < 4))
  pub is : r ≡ relation_at begin low high kind
  pub place : place_of r ≡ pair_place begin low high kind

pub parts_of : (r : Relation) → IsRelation r → PlaceParts r
parts_of (Before a b) v = let apart = v.0 in let in_a = v.1 in let in_b = v.2 in ⊎_elim
    (λ (e : a ≡ b). absurd (apart e))
    (⊎_elim
    (λ (l : a < b). let r : PlaceParts (Before a b) = record { begin = 126; low = a; high = b; kind = 0; rises = l; small = in_b; begins = inr (refl, omega arith); is = refl; place = cond-true (nat_lt a b) _ _ (lt-ltb a b l) } in r)
    (λ (l : b < a). let r : PlaceParts (Before a b) = record { begin = 126; low = b; high = a; kind = 1; rises = l; small = in_a; begins = inr (refl, omega arith); is = refl; place = cond-false (nat_lt a b) _ _ (le-ltb a b (omega arith)) } in r))
    (cases_order a b)
parts_of (Exclusive a b) v = record { begin = 126; low = a; high = b; kind = 2; rises = v.0; small = v.1; begins = inr (refl, omega arith); is = refl; place = refl }
parts_of (Apart a b) v = record { begin = 126; low = a; high = b; kind = 3; rises = v.0; small = v.1; begins = inr (refl, omega arith); is = refl; place = refl }
parts_of (Pipe a b) v = let apart = v.0 in let in_a = v.1 in let in_b = v.2 in ⊎_elim
    (λ (e : a ≡ b). absurd (apart e))
    (⊎_elim
    (λ (l : a < b). let r : PlaceParts (Pipe a b) = record { begin = 0; low = a; high = b; kind = 0; rises = l; small = omega arith; begins = inl (refl, in_b, omega arith); is = refl; place = cond-true (nat_lt a b) _ _ (lt-ltb a b l) } in r)
    (λ (l : b < a). let r : PlaceParts (Pipe a b) = record { begin = 0; low = b; high = a; kind = 1; rises = l; small = omega arith; begins = inl (refl, in_a, omega arith); is = refl; place = cond-false (nat_lt a b) _ _ (le-ltb a b (omega arith)) } in r))
    (cases_order a b)
parts_of (Unshared a b) v = let l = v.1 in record { begin = 0; low = a; high = b; kind = 2; rises = v.0; small = omega arith; begins = inl (refl, l, omega arith); is = refl; place = refl }

-- a task pair stands below word 126
task_pair : (i j : ℕ) → i < j → j < 64 → pairs_below j + i < 2016
task_pair i j h l = omega (arith, pair-below i j 64 h l, pairs_below-64)

-- equal places have equal parts
module _ (r s : Relation) (a : PlaceParts r) (b : PlaceParts s) (word : a.begin + pair_number a.low a.high / 16 ≡ b.begin + pair_number b.low b.high / 16) (bit : 4 * (pair_number a.low a.high % 16) + a.kind ≡ 4 * (pair_number b.low b.high % 16) + b.kind) where
  same_begin : a.begin ≡ b.begin
  same_begin = ⊎_elim
      (λ (p : (a.begin ≡ 0) × (a.high < 64) × (a.kind < 3)). ⊎_elim
      (λ (q : (b.begin ≡ 0) × (b.high < 64) × (b.kind < 3)). omega arith)
      (λ (q : (b.begin ≡ 126) × (b.kind < 4)). absurd (let l = task_pair a.low a.high a.rises p.1 in omega arith))
      b.begins)
      (λ (p : (a.begin ≡ 126) × (a.kind < 4)). ⊎_elim
      (λ (q : (b.begin ≡ 0) × (b.high < 64) × (b.kind < 3)). absurd (let l = task_pair b.low b.high b.rises q.1 in omega arith))
      (λ (q : (b.begin ≡ 126) × (b.kind < 4)). omega arith)
      b.begins)
      a.begins

  kind_of : (t : Relation) (c : PlaceParts t) → c.kind < 4
  kind_of t c = ⊎_elim (λ (p : (c.begin ≡ 0) × (c.high < 64) × (c.kind < 3)). omega arith) (λ (p : (c.begin ≡ 126) × (c.kind < 4)). p.1) c.begins

  same_kind : a.kind ≡ b.kind
  same_kind = let p = kind_of r a in let q = kind_of s b in omega arith

  same_number : pair_number a.low a.high ≡ pair_number b.low b.high
  same_number = let p = same_begin in let q = same_kind in omega arith

  pub same_relation : r ≡ s
  same_relation = let p = same_pair a.low a.high b.low b.high a.rises b.rises same_number in
      a.is ∙ (λ j. relation_at (same_begin j) (p.0 j) (p.1 j) (same_kind j)) ∙ sym b.is

pub places_apart : (r s : Relation) → IsRelation r → IsRelation s → place_of r ≡ place_of s → r ≡ s
places_apart r s v w e = let a = parts_of r v in let b = parts_of s w in let p : pair_place a.begin a.low a.high a.kind ≡ pair_place b.begin b.low b.high b.kind = sym a.place ∙ e ∙ b.place in
    same_relation r s a b (ap (λ (q : BitPlace). q.word) p) (ap (λ (q : BitPlace). q.bit) p)

-- the bounds of a place
pub record Inside (p : BitPlace) : Type 0 where
  pub word : p.word < 8302
  pub bit : p.bit < 64
  pub task : p.word < 126 → p.bit % 4 < 3

inside_from : (r : Relation) (a : PlaceParts r) → Inside (pair_place a.begin a.low a.high a.kind)
inside_from r a = let n = pair-below a.low a.high 512 a.rises a.small in let m = pairs_below-512 in ⊎_elim
    (λ (p : (a.begin ≡ 0) × (a.high < 64) × (a.kind < 3)). let l = task_pair a.low a.high a.rises p.1 in let r : Inside (pair_place a.begin a.low a.high a.kind) = record { word = omega arith; bit = omega arith; task = λ h. omega arith } in r)
    (λ (p : (a.begin ≡ 126) × (a.kind < 4)). let r : Inside (pair_place a.begin a.low a.high a.kind) = record { word = omega arith; bit = omega arith; task = λ h. absurd (omega arith) } in r)
    a.begins

pub inside : (r : Relation) → IsRelation r → Inside (place_of r)
inside r v = let a = parts_of r v in subst Inside (sym a.place) (inside_from r a)

-- the place of a pair of names below n
name_fits : (n i j k : ℕ) → i < j → j < n → n ≤ 512 → k < 4 → ((pair_place 126 i j k).word < width_of n) × ((pair_place 126 i j k).bit < 64)
name_fits n i j k h l m f = let b = pair-below i j n h l in (omega arith, omega arith)

task_fits : (n i j k : ℕ) → i < j → j < 64 → k < 4 → ((pair_place 0 i j k).word < width_of n) × ((pair_place 0 i j k).bit < 64)
task_fits n i j k h l f = let b = task_pair i j h l in (omega arith, omega arith)

abbrev Fits : ℕ → BitPlace → Type 0
Fits n p = (p.word < width_of n) × (p.bit < 64)

pub place_fits : (n : ℕ) (r : Relation) → n ≤ 512 → IsRelation r → NamesBelow n r → Fits n (place_of r)
place_fits n (Before a b) m v w = let apart = v.0 in ⊎_elim
    (λ (e : a ≡ b). absurd (apart e))
    (⊎_elim
    (λ (l : a < b). subst (Fits n) (sym (cond-true (nat_lt a b) (pair_place 126 a b 0) (pair_place 126 b a 1) (lt-ltb a b l))) (name_fits n a b 0 l w.1 m (omega arith)))
    (λ (l : b < a). subst (Fits n) (sym (cond-false (nat_lt a b) (pair_place 126 a b 0) (pair_place 126 b a 1) (le-ltb a b (omega arith)))) (name_fits n b a 1 l w.0 m (omega arith))))
    (cases_order a b)
place_fits n (Exclusive a b) m v w = name_fits n a b 2 v.0 w m (omega arith)
place_fits n (Apart a b) m v w = name_fits n a b 3 v.0 w m (omega arith)
place_fits n (Pipe a b) m v w = let apart = v.0 in ⊎_elim
    (λ (e : a ≡ b). absurd (apart e))
    (⊎_elim
    (λ (l : a < b). subst (Fits n) (sym (cond-true (nat_lt a b) (pair_place 0 a b 0) (pair_place 0 b a 1) (lt-ltb a b l))) (task_fits n a b 0 l v.2 (omega arith)))
    (λ (l : b < a). subst (Fits n) (sym (cond-false (nat_lt a b) (pair_place 0 a b 0) (pair_place 0 b a 1) (le-ltb a b (omega arith)))) (task_fits n b a 1 l v.1 (omega arith))))
    (cases_order a b)
place_fits n (Unshared a b) m v w = task_fits n a b 2 v.0 v.1 (omega arith)
