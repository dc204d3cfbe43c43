-- The definitions on the examples of the documents.
use Rattle.std.proofs.Common.{◌≡◌, ℕ, [], ◌∷◌, refl}
use Rattle.trace_types.specs.declared.named_trace.NamedTrace.{NamedTrace}
use Rattle.trace_rules.specs.Halving.{halving, share_of, shares_of}
use Rattle.trace_rules.specs.WatchMarks.{watch_counts, watch_marks}

five_among_three : shares_of {T = ℕ} (1 ∷ 2 ∷ 3 ∷ 4 ∷ 5 ∷ []) 3 ≡ (1 ∷ []) ∷ (2 ∷ 3 ∷ []) ∷ (4 ∷ 5 ∷ []) ∷ []
unfolding halving
five_among_three = refl

one_among_four : shares_of {T = ℕ} (1 ∷ []) 4 ≡ [] ∷ [] ∷ [] ∷ (1 ∷ []) ∷ []
unfolding halving
one_among_four = refl

third_of_seven : share_of {T = ℕ} (1 ∷ 2 ∷ 3 ∷ 4 ∷ 5 ∷ 6 ∷ 7 ∷ 8 ∷ []) 7 2 ≡ 3 ∷ []
unfolding halving
third_of_seven = refl

every_second : watch_counts 2 5 ≡ 2 ∷ 4 ∷ []
every_second = refl

never : watch_counts 0 5 ≡ []
never = refl

marks_of_two : (t u v : NamedTrace) → watch_marks 1 0 ((t ∷ u ∷ []) ∷ (v ∷ []) ∷ []) ≡ (0, 1) ∷ (0, 2) ∷ (1, 1) ∷ []
marks_of_two t u v = refl
