-- What one mark, one row and all rows add to a row of bits.
use Rattle.std.proofs.Common.{◌≡◌, ◌⊎◌, ℕ, zero, suc, ◌+◌, ◌/◌, ◌<◌, ◌≤◌, ◌&&◌, ◌||◌, Bool, true, false, List, [], ◌∷◌, length, get_or, take, Some, None, refl, sym, ap, ◌∙◌, subst, ⊎_elim, inl, inr, arith}
use Rattle.std.specs.Prelude.{Option, slice_get}
use Rattle.std.specs.Option.{option_map_or}
use Rattle.std.proofs.lemmas.Bool.{and_parts, cases_lt, or_cases}
use Rattle.std.proofs.lemmas.Option.{slice_get-get_or}
use Rattle.std.proofs.Math.Nat.{le-max_right, max-le}
use Rattle.hypothesis_index.specs.Places.{IsRelation, pairs_below, place_of}
use Rattle.hypothesis_index.proofs.PairLemmas.{pairs_below-64}
use Rattle.hypothesis_index.specs.Refuting.{IsPlaceOfSome}
use Rattle.hypothesis_index.specs.declared.relation.Relation.{Relation}
use Rattle.hypothesis_index.specs.declared.relation.Relation.TheVariants.{Before, Exclusive, Apart, Pipe, Unshared}
use Rattle.pipeline_tests.proofs.TaskLemmas.{adds_none, adds_same, adds_then}
use Rattle.refute_tests.specs.Clearing.{AddsExactly, is_at}
use Rattle.refute_tests.proofs.ExactLemmas.{at_from, at_means}
use Rattle.word_rows.specs.Rows.{clears}
use Rattle.word_rows.specs.declared.entries.Entry.{Entry}
use Rattle.judged_books.specs.inner.MarkedRows.{RowTells, RowsTell, TellsOfNames, TellsOfTasks, name_width, name_word, task_width, task_word, tells_after, tells_before, tells_both, tells_exclusive}

-- the relation is this one, and refuted
abbrev IsThis : Relation → Bool → Relation → Type 0
IsThis q refuted r = (r ≡ q) × (refuted ≡ true)

-- a place that is cleared where its relation is refuted
if_adds : (old new : List Entry) (q : Relation) (refuted : Bool) → IsRelation q → ((i b : ℕ) → clears new i b ≡ (clears old i b || (refuted && is_at q i b))) → AddsExactly old (IsThis q refuted) new
if_adds old new q refuted is h i b = (
  (λ e. ⊎_elim
      (λ (o : clears old i b ≡ true). inl o)
      (λ (o : (refuted && is_at q i b) ≡ true). let p = and_parts refuted (is_at q i b) o in inr (q, is, at_means q i b p.1, (refl, p.0)))
      (or_cases (clears old i b) (refuted && is_at q i b) (sym (h i b) ∙ e))),
  (λ s. h i b ∙ ⊎_elim
      (λ (o : clears old i b ≡ true). rw o refl)
      (λ (p : IsPlaceOfSome (IsThis q refuted) i b). or_true (clears old i b) (refuted && is_at q i b)
      (both_true refuted (is_at q i b) p.3.1 (at_from q i b (place_of p.0) p.2 (ap place_of (sym p.3.0)))))
      s),
)
  where
    or_true : (x y : Bool) → y ≡ true → (x || y) ≡ true
    or_true true y e = refl
    or_true false y e = e

    both_true : (x y : Bool) → x ≡ true → y ≡ true → (x && y) ≡ true
    both_true x y e f = rw (e, f) refl

-- what three steps add, and four
module _ (old one two three : List Entry) (P Q R : Relation → Type 0) (a : AddsExactly old P one) (b : AddsExactly one Q two) (c : AddsExactly two R three) where
  pub adds_three : AddsExactly old (λ r. (P r ⊎ Q r) ⊎ R r) three
  adds_three = adds_then old two three (λ r. P r ⊎ Q r) R (λ r. (P r ⊎ Q r) ⊎ R r)
      (adds_then old one two P Q (λ r. P r ⊎ Q r) a b (λ r i p. inl p) (λ r i q. inr q) (λ r i s. s)) c (λ r i p. inl p) (λ r i q. inr q) (λ r i s. s)

  pub adds_four : (four : List Entry) (S : Relation → Type 0) → AddsExactly three S four → AddsExactly old (λ r. ((P r ⊎ Q r) ⊎ R r) ⊎ S r) four
  adds_four four S d = adds_then old three four (λ r. (P r ⊎ Q r) ⊎ R r) S (λ r. ((P r ⊎ Q r) ⊎ R r) ⊎ S r) adds_three d (λ r i p. inl p) (λ r i q. inr q) (λ r i s. s)

module _ (low high mark : ℕ) where
  abbrev OfTasks : Relation → Type 0
  OfTasks r = (IsThis (Pipe low high) (tells_before mark) r ⊎ IsThis (Pipe high low) (tells_after mark) r) ⊎ IsThis (Unshared low high) (tells_both mark) r

  abbrev OfNames : Relation → Type 0
  OfNames r = ((IsThis (Before low high) (tells_before mark) r ⊎ IsThis (Before high low) (tells_after mark) r) ⊎ IsThis (Exclusive low high) (tells_exclusive mark) r) ⊎ IsThis (Apart low high) (tells_both mark) r

  tasks_to : (r : Relation) → OfTasks r → TellsOfTasks low high mark r
  tasks_to r (inl (inl h)) = subst (TellsOfTasks low high mark) (sym h.0) (inl (refl, refl, h.1))
  tasks_to r (inl (inr h)) = subst (TellsOfTasks low high mark) (sym h.0) (inr (refl, refl, h.1))
  tasks_to r (inr h) = subst (TellsOfTasks low high mark) (sym h.0) (refl, refl, h.1)

  tasks_back : (r : Relation) → TellsOfTasks low high mark r → OfTasks r
  tasks_back (Before a b) h = absurd h
  tasks_back (Exclusive a b) h = absurd h
  tasks_back (Apart a b) h = absurd h
  tasks_back (Pipe t u) (inl h) = inl (inl ((λ i. Pipe (h.0 i) (h.1 i)), h.2))
  tasks_back (Pipe t u) (inr h) = inl (inr ((λ i. Pipe (h.0 i) (h.1 i)), h.2))
  tasks_back (Unshared t u) h = inr ((λ i. Unshared (h.0 i) (h.1 i)), h.2)

  names_to : (r : Relation) → OfNames r → TellsOfNames low high mark r
  names_to r (inl (inl (inl h))) = subst (TellsOfNames low high mark) (sym h.0) (inl (refl, refl, h.1))
  names_to r (inl (inl (inr h))) = subst (TellsOfNames low high mark) (sym h.0) (inr (refl, refl, h.1))
  names_to r (inl (inr h)) = subst (TellsOfNames low high mark) (sym h.0) (refl, refl, h.1)
  names_to r (inr h) = subst (TellsOfNames low high mark) (sym h.0) (refl, refl, h.1)

  names_back : (r : Relation) → TellsOfNames low high mark r → OfNames r
  names_back (Before a b) (inl h) = inl (inl (inl ((λ i. Before (h.0 i) (h.1 i)), h.2)))
  names_back (Before a b) (inr h) = inl (inl (inr ((λ i. Before (h.0 i) (h.1 i)), h.2)))
  names_back (Exclusive a b) h = inl (inr ((λ i. Exclusive (h.0 i) (h.1 i)), h.2))
  names_back (Apart a b) h = inr ((λ i. Apart (h.0 i) (h.1 i)), h.2)
  names_back (Pipe t u) h = absurd h
  names_back (Unshared t u) h = absurd h

  module _ (rises : low < high) where
    differ : low ≡ high → ⊥
    differ e = absurd (omega (arith, e, rises))

    turned : high ≡ low → ⊥
    turned e = absurd (omega (arith, e, rises))

    pub tasks_add : high < 64 → (old one two three : List Entry)
        → ((i b : ℕ) → clears one i b ≡ (clears old i b || (tells_before mark && is_at (Pipe low high) i b)))
        → ((i b : ℕ) → clears two i b ≡ (clears one i b || (tells_after mark && is_at (Pipe high low) i b)))
        → ((i b : ℕ) → clears three i b ≡ (clears two i b || (tells_both mark && is_at (Unshared low high) i b)))
        → AddsExactly old (TellsOfTasks low high mark) three
    tasks_add small old one two three a b c = adds_same old three OfTasks (TellsOfTasks low high mark)
        (adds_three old one two three (IsThis (Pipe low high) (tells_before mark)) (IsThis (Pipe high low) (tells_after mark)) (IsThis (Unshared low high) (tells_both mark))
        (if_adds old one (Pipe low high) (tells_before mark) (differ, omega (arith, rises, small), small) a)
        (if_adds one two (Pipe high low) (tells_after mark) (turned, small, omega (arith, rises, small)) b)
        (if_adds two three (Unshared low high) (tells_both mark) (rises, small) c))
        (λ r is h. tasks_to r h) (λ r is h. tasks_back r h)

    pub names_add : high < 512 → (old one two three four : List Entry)
        → ((i b : ℕ) → clears one i b ≡ (clears old i b || (tells_before mark && is_at (Before low high) i b)))
        → ((i b : ℕ) → clears two i b ≡ (clears one i b || (tells_after mark && is_at (Before high low) i b)))
        → ((i b : ℕ) → clears three i b ≡ (clears two i b || (tells_exclusive mark && is_at (Exclusive low high) i b)))
        → ((i b : ℕ) → clears four i b ≡ (clears three i b || (tells_both mark && is_at (Apart low high) i b)))
        → AddsExactly old (TellsOfNames low high mark) four
    names_add small old one two three four a b c d = adds_same old four OfNames (TellsOfNames low high mark)
        (adds_four old one two three (IsThis (Before low high) (tells_before mark)) (IsThis (Before high low) (tells_after mark)) (IsThis (Exclusive low high) (tells_exclusive mark))
        (if_adds old one (Before low high) (tells_before mark) (differ, omega (arith, rises, small), small) a)
        (if_adds one two (Before high low) (tells_after mark) (turned, small, omega (arith, rises, small)) b)
        (if_adds two three (Exclusive low high) (tells_exclusive mark) (rises, small) c)
        four (IsThis (Apart low high) (tells_both mark))
        (if_adds three four (Apart low high) (tells_both mark) (rises, small) d))
        (λ r is h. names_to r h) (λ r is h. names_back r h)

-- ---- one more mark of a row
pub take_get : {X : Type 0} (n : ℕ) (xs : List X) (k : ℕ) (x : X) → slice_get (take n xs) k ≡ Some x → (k < n) × (slice_get xs k ≡ Some x)
take_get zero xs zero x e = let q : None ≡ Some x = e in cc
take_get zero xs (suc k) x e = let q : None ≡ Some x = e in cc
take_get (suc n) [] k x e = absurd (none_at k x e)
  where
    none_at : {X : Type 0} (k : ℕ) (x : X) → slice_get [] k ≡ Some x → ⊥
    none_at zero x q = cc
    none_at (suc k) x q = cc
take_get (suc n) (y ∷ ys) zero x e = (omega arith, e)
take_get (suc n) (y ∷ ys) (suc k) x e = let r = take_get n ys k x e in (omega (arith, r.0), r.1)

pub get_take : {X : Type 0} (n : ℕ) (xs : List X) (k : ℕ) (x : X) → k < n → slice_get xs k ≡ Some x → slice_get (take n xs) k ≡ Some x
get_take zero xs k x lt e = absurd (omega (arith, lt))
get_take (suc n) [] k x lt e = e
get_take (suc n) (y ∷ ys) zero x lt e = e
get_take (suc n) (y ∷ ys) (suc k) x lt e = get_take n ys k x (omega (arith, lt)) e

module _ (Tells : ℕ → ℕ → ℕ → Relation → Type 0) (high : ℕ) (marks : List ℕ) where
  pub row_none : (row : List Entry) → AddsExactly row (RowTells Tells high (take 0 marks)) row
  row_none row = adds_none row (RowTells Tells high (take 0 marks)) (λ r h. let lt = (take_get 0 marks h.0 h.1 h.2).0 in absurd (omega (arith, lt)))

  pub row_more : (old now new : List Entry) (low mark : ℕ) → slice_get marks low ≡ Some mark → AddsExactly old (RowTells Tells high (take low marks)) now → AddsExactly now (Tells low high mark) new → AddsExactly old (RowTells Tells high (take (low + 1) marks)) new
  row_more old now new low mark at a b = adds_then old now new (RowTells Tells high (take low marks)) (Tells low high mark) (RowTells Tells high (take (low + 1) marks)) a b
      (λ r is h. let t = take_get low marks h.0 h.1 h.2 in (h.0, h.1, get_take (low + 1) marks h.0 h.1 (omega (arith, t.0)) t.1, h.3))
      (λ r is h. (low, mark, get_take (low + 1) marks low mark (omega arith) at, h))
      (λ r is h. let t = take_get (low + 1) marks h.0 h.1 h.2 in ⊎_elim
      (λ (lt : h.0 < low). inl (h.0, h.1, get_take low marks h.0 h.1 lt t.1, h.3))
      (λ (ge : low ≤ h.0).
      let e : h.0 ≡ low = omega (arith, t.0, ge) in
      let one : Some h.1 ≡ Some mark = sym t.1 ∙ ap (λ (k : ℕ). slice_get marks k) e ∙ at in
      let same : h.1 ≡ mark = some_one h.1 mark one in
      inr (subst (λ (m : ℕ). Tells low high m r) same (subst (λ (k : ℕ). Tells k high h.1 r) e h.3)))
      (cases_lt h.0 low))
    where
      some_one : (x y : ℕ) → Some x ≡ Some y → x ≡ y
      some_one x y e = ap (λ (o : Option ℕ). option_map_or (λ (v : ℕ). v) o x) e

-- ---- one more row
module _ {X : Type 0} (Tells : ℕ → ℕ → ℕ → Relation → Type 0) (rows : List (X × List ℕ)) where
  pub rows_none : (row : List Entry) → AddsExactly row (RowsTell Tells (take 0 rows)) row
  rows_none row = adds_none row (RowsTell Tells (take 0 rows)) (λ r h. let lt = (take_get 0 rows h.0 h.1 h.2).0 in absurd (omega (arith, lt)))

  pub rows_more : (old now new : List Entry) (high : ℕ) (row : X × List ℕ) → slice_get rows high ≡ Some row → AddsExactly old (RowsTell Tells (take high rows)) now → AddsExactly now (RowTells Tells high row.1) new → AddsExactly old (RowsTell Tells (take (high + 1) rows)) new
  rows_more old now new high row at a b = adds_then old now new (RowsTell Tells (take high rows)) (RowTells Tells high row.1) (RowsTell Tells (take (high + 1) rows)) a b
      (λ r is h. let t = take_get high rows h.0 h.1 h.2 in (h.0, h.1, get_take (high + 1) rows h.0 h.1 (omega (arith, t.0)) t.1, h.3))
      (λ r is h. (high, row, get_take (high + 1) rows high row (omega arith) at, h))
      (λ r is h. let t = take_get (high + 1) rows h.0 h.1 h.2 in ⊎_elim
      (λ (lt : h.0 < high). inl (h.0, h.1, get_take high rows h.0 h.1 lt t.1, h.3))
      (λ (ge : high ≤ h.0).
      let e : h.0 ≡ high = omega (arith, t.0, ge) in
      let one : Some h.1 ≡ Some row = sym t.1 ∙ ap (λ (k : ℕ). slice_get rows k) e ∙ at in
      let same : h.1 ≡ row = ap (λ (o : Option (X × List ℕ)). option_map_or (λ (v : X × List ℕ). v) o h.1) one in
      inr (subst (λ (m : X × List ℕ). RowTells Tells high m.1 r) same (subst (λ (k : ℕ). RowTells Tells k h.1.1 r) e h.3)))
      (cases_lt h.0 high))

-- a test that is known as another
pub told : (old new : List Entry) (q : Relation) (t u : Bool) → t ≡ u → ((i b : ℕ) → clears new i b ≡ (clears old i b || (t && is_at q i b))) → (i b : ℕ) → clears new i b ≡ (clears old i b || (u && is_at q i b))
told old new q t u e h i b = h i b ∙ ap (λ (v : Bool). clears old i b || (v && is_at q i b)) e

-- ---- the words begun
le_trans : (a b c : ℕ) → a ≤ b → b ≤ c → a ≤ c
le_trans a b c l m = omega (arith, l, m)

module _ (high low : ℕ) where
  pub task_grows : task_word low high + 1 ≤ task_width (pairs_below high + (low + 1))
  task_grows = le_trans (task_word low high + 1) ((pairs_below high + (low + 1) + 15) / 16) (task_width (pairs_below high + (low + 1)))
      (omega arith) (le-max_right 1 ((pairs_below high + (low + 1) + 15) / 16))

  pub name_grows : name_word low high + 1 ≤ name_width (pairs_below high + (low + 1))
  name_grows = omega arith

-- at most 64 tasks have pairs in the first 126 words
pub tasks_below : ((high higher : ℕ) → high < higher → pairs_below high + high ≤ pairs_below higher) → (n : ℕ) → n ≤ 64 → task_width (pairs_below n) ≤ 126
tasks_below follow n few =
    let below : pairs_below n ≤ 2016 = ⊎_elim
    (λ (lt : n < 64). let h = follow n 64 lt in omega (arith, h, pairs_below-64))
    (λ (ge : 64 ≤ n). let same : n ≡ 64 = omega (arith, few, ge) in subst (λ (m : ℕ). pairs_below m ≤ 2016) (sym same) (omega (arith, pairs_below-64)))
    (cases_lt n 64) in
    max-le (omega arith) (omega (arith, below))

-- the element at an index
pub row_at : {X : Type 0} (xs : List X) (k : ℕ) (x : X) → k < length xs → x ≡ get_or xs k x → slice_get xs k ≡ Some x
row_at {X} xs k x within at = slice_get-get_or xs k x within ∙ ap (λ (v : X). Some v) (sym at)
