-- The pairs that a walk has still before it.
use Rattle.std.proofs.Common.{◌≡◌, ℕ, ◌+◌, ◌<◌, List, ◌++◌, length, drop, get_or, ap, ◌∙◌, All}
use Rattle.std.specs.List.{flat_map}
use Rattle.std.proofs.lemmas.List.{drop_more}
use Rattle.std.proofs.lemmas.List.Concat.{flat_map-append}
use Rattle.std.proofs.lemmas.List.Elements.{All-drop}
use Rattle.certificate_rows.specs.declared.kind.Kind.{Kind}
use Rattle.certificate_rows.specs.declared.kind.Kind.TheVariants.{Before, Exclusive, Pipe}
use Rattle.certificate_rows.specs.inner.Pairs.{pairs_with, pairs_of, seconds_of}

module _ (row : ℕ × ℕ → List ℕ) where
  -- the rows of the pairs of one with the others from a place on
  pub row_next : (one : ℕ) (others : List ℕ) (i : ℕ) → i < length others
      → flat_map row (pairs_with one (drop i others)) ≡ row (one, get_or others i 0) ++ flat_map row (pairs_with one (drop (i + 1) others))
  row_next one others i lt = ap (λ (l : List ℕ). flat_map row (pairs_with one l)) (drop_more others i 0 lt)

  -- the rows of all pairs from a first number on
  pub rows_next : (kind : Kind) (all : List ℕ) (at : ℕ) → at < length all
      → flat_map row (pairs_of kind all (drop at all)) ≡ flat_map row (pairs_with (get_or all at 0) (seconds_of kind all (drop (at + 1) all))) ++ flat_map row (pairs_of kind all (drop (at + 1) all))
  rows_next kind all at lt =
      ap (λ (l : List ℕ). flat_map row (pairs_of kind all l)) (drop_more all at 0 lt)
      ∙ flat_map-append row (pairs_with (get_or all at 0) (seconds_of kind all (drop (at + 1) all))) (pairs_of kind all (drop (at + 1) all))

-- what holds of all numbers holds of those that are asked beside one
pub seconds_all : (P : ℕ → Type 0) (kind : Kind) (all : List ℕ) (at : ℕ) → All P all → All P (seconds_of kind all (drop at all))
seconds_all P Before all at holds = holds
seconds_all P Exclusive all at holds = All-drop P at all holds
seconds_all P Pipe all at holds = holds
