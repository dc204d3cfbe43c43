-- Rows of marks by numbers are those of a digest's table.
use Rattle.std.proofs.Common.{◌≡◌, ℕ, ◌+◌, ◌<◌, List, [], ◌∷◌, ◌++◌, map, length, get_or, drop, take, refl, sym, ap, ◌∙◌, subst, ⊎_elim}
use Rattle.std.specs.Prelude.{AllPairs, Contains}
use Rattle.std.proofs.lemmas.List.{append_assoc, drop_more, map-append, take_more}
use Rattle.std.proofs.lemmas.List.Elements.{Contains-append_cases}
use Rattle.digest_facts.specs.Tables.{rows_from}
use Rattle.digest_facts.proofs.UnionLemmas.{cons_cases, cons_here, cons_there, head_before, nil_has, pairs_tail}
use Rattle.kept_names.proofs.ListingLemmas.{texts_of}
use Rattle.judged_books.specs.inner.KeptRows.{marked_rows}

module _ {X : Type 0} (byte : X → X → ℕ) (mark : ℕ → ℕ → ℕ) where
  marks_are : (earlier : List (X × ℕ)) (item : X × ℕ) → ((i : X × ℕ) → Contains earlier i → byte i.0 item.0 ≡ mark i.1 item.1) → map (λ (i : X × ℕ). mark i.1 item.1) earlier ≡ map (λ a. byte a item.0) (texts_of earlier)
  marks_are [] item same = refl
  marks_are (i ∷ earlier) item same =
      let first : mark i.1 item.1 ≡ byte i.0 item.0 = sym (same i (cons_here i earlier)) in
      let rest = marks_are earlier item (λ k c. same k (cons_there i earlier k c)) in
      λ n. first n ∷ rest n

  -- where the bytes of different items are the marks of their numbers, the rows are those of their texts
  pub rows_are : (earlier items : List (X × ℕ)) → ((i j : X × ℕ) → Contains earlier i → Contains items j → byte i.0 j.0 ≡ mark i.1 j.1) → AllPairs (λ (i j : X × ℕ). byte i.0 j.0 ≡ mark i.1 j.1) items → marked_rows mark earlier items ≡ rows_from byte (texts_of earlier) (texts_of items)
  rows_are earlier [] across within = refl
  rows_are earlier (item ∷ items) across within =
      let row : map (λ (i : X × ℕ). mark i.1 item.1) earlier ≡ map (λ a. byte a item.0) (texts_of earlier) = marks_are earlier item (λ i c. across i item c (cons_here item items)) in
      let more : marked_rows mark (earlier ++ item ∷ []) items ≡ rows_from byte (texts_of (earlier ++ item ∷ [])) (texts_of items) = rows_are (earlier ++ item ∷ []) items
      (λ i j c d. ⊎_elim
      (λ (k : Contains earlier i). across i j k (cons_there item items j d))
      (λ (k : Contains (item ∷ []) i). ⊎_elim
      (λ (e : item ≡ i). subst (λ (v : X × ℕ). byte v.0 j.0 ≡ mark v.1 j.1) e (head_before (λ (i j : X × ℕ). byte i.0 j.0 ≡ mark i.1 j.1) item items j within d))
      (λ (n : Contains [] i). absurd (nil_has i n))
      (cons_cases item [] i k))
      (Contains-append_cases earlier (item ∷ []) i c))
      (pairs_tail (λ (i j : X × ℕ). byte i.0 j.0 ≡ mark i.1 j.1) item items within) in
      let texts : texts_of (earlier ++ item ∷ []) ≡ texts_of earlier ++ item.0 ∷ [] = map-append (λ (i : X × ℕ). i.0) earlier (item ∷ []) in
      λ n. (item.0, row n) ∷ (more ∙ ap (λ (l : List X). rows_from byte l (texts_of items)) texts) n

-- one more row
pub one_row : {X : Type 0} (mark : ℕ → ℕ → ℕ) (items : List (X × ℕ)) (rows more : List (X × List ℕ)) (k : ℕ) (item : X × ℕ) → k < length items → item ≡ get_or items k item → rows ++ marked_rows mark (take k items) (drop k items) ≡ marked_rows mark [] items
    → more ≡ rows ++ (item.0, map (λ (i : X × ℕ). mark i.1 item.1) (take k items)) ∷ [] → more ++ marked_rows mark (take (k + 1) items) (drop (k + 1) items) ≡ marked_rows mark [] items
one_row {X} mark items rows more k item within at so_far is =
    let split : drop k items ≡ item ∷ drop (k + 1) items = drop_more items k item within ∙ ap (λ (i : X × ℕ). i ∷ drop (k + 1) items) (sym at) in
    let taken : take (k + 1) items ≡ take k items ++ item ∷ [] = take_more items k item within ∙ ap (λ (i : X × ℕ). take k items ++ i ∷ []) (sym at) in
    let row : X × List ℕ = (item.0, map (λ (i : X × ℕ). mark i.1 item.1) (take k items)) in
    ap (λ l. l ++ marked_rows mark (take (k + 1) items) (drop (k + 1) items)) is
    ∙ append_assoc rows (row ∷ []) (marked_rows mark (take (k + 1) items) (drop (k + 1) items))
    ∙ ap (λ (l : List (X × ℕ)). rows ++ row ∷ marked_rows mark l (drop (k + 1) items)) taken
    ∙ ap (λ (l : List (X × ℕ)). rows ++ marked_rows mark (take k items) l) (sym split)
    ∙ so_far
