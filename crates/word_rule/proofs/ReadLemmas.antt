-- Readings of all words, one more of them.
use Rattle.std.proofs.Common.{◌≡◌, ℕ, ◌+◌, ◌<◌, true, ◌||◌, List, [], ◌∷◌, ◌++◌, length, set, take, slice_index, sym, ap, ◌∙◌, subst, ⊎_elim, arith, append_assoc, get_or-set_same, get_or-set_other}
use Rattle.std.proofs.lemmas.Bool.{cases_eq, or_cases, or_left, or_right}
use Rattle.std.proofs.lemmas.List.{take_more_set, length-take-le, take-set-le}
use Rattle.std.proofs.lemmas.List.Folds.{list_any-append}
use Rattle.std.specs.Int.{bit_at}
use Rattle.word_rows.specs.declared.views.Reading.{Reading}
use Rattle.word_rows.specs.declared.views.View.{View}
use Rattle.word_rows.specs.Rows.{rows_clear}
use Rattle.word_rows.specs.Words.{bit_of}
use Rattle.word_rows.specs.Accounts.{lacks}
use Rattle.word_rows.specs.Changes.{readings_from, with_reading, with_readings}
use Rattle.word_rule.specs.Shown.{shows}
use Rattle.word_rule.specs.Histories.{read_until}

abbrev reading : ℕ → ℕ → Reading
reading i x = record { word = i; value = x }

readings_from_push : (k : ℕ) (xs : List ℕ) (x : ℕ) → readings_from k (xs ++ x ∷ []) ≡ readings_from k xs ++ reading (k + length xs) x ∷ []
readings_from_push k [] x = ap (λ (j : ℕ). reading j x ∷ []) (omega arith)
readings_from_push k (y ∷ ys) x = ap (λ (l : List Reading). reading k y ∷ l) (readings_from_push (k + 1) ys x ∙ ap (λ (j : ℕ). readings_from (k + 1) ys ++ reading j x ∷ []) (omega arith))

-- the view after so many readings
abbrev pub read_so_far : View → List ℕ → ℕ → View
read_so_far v into i = record v { readings = v.readings ++ readings_from 0 (take i into) }

module _ (v : View) (into : List ℕ) (i x : ℕ) (inside : i < length into) where
  one_more : readings_from 0 (take (i + 1) (set into i x)) ≡ readings_from 0 (take i into) ++ reading i x ∷ []
  one_more = ap (λ (l : List ℕ). readings_from 0 l) (take_more_set into i x inside) ∙ readings_from_push 0 (take i into) x
      ∙ ap (λ (j : ℕ). readings_from 0 (take i into) ++ reading j x ∷ []) (let l = length-take-le i into (omega arith) in omega arith)

  pub step_view : with_reading (read_so_far v into i) i x ≡ read_so_far v (set into i x) (i + 1)
  step_view = ap (λ (l : List Reading). let u : View = record v { readings = l } in u)
      (append_assoc v.readings (readings_from 0 (take i into)) (reading i x ∷ []) ∙ ap (λ (l : List Reading). v.readings ++ l) (sym one_more))

  -- what the view showed at first, it shows still
  shows_more : (b : ℕ) → shows v i b ≡ true → shows (read_so_far v into i) i b ≡ true
  shows_more b t = ⊎_elim
      (λ (o : (rows_clear v.done i b || rows_clear v.seen i b) ≡ true). or_left _ _ o)
      (λ (o : lacks v.readings i b ≡ true). or_right _ _ (list_any-append _ v.readings (readings_from 0 (take i into)) ∙ or_left _ _ o))
      (or_cases _ _ t)

  pub step_knows : ((j b : ℕ) → j < i → b < 64 → shows v j b ≡ true → bit_of into j b ≡ 0) → ((b : ℕ) → b < 64 → shows (read_so_far v into i) i b ≡ true → bit_at x b ≡ 0)
      → (j b : ℕ) → j < i + 1 → b < 64 → shows v j b ≡ true → bit_of (set into i x) j b ≡ 0
  step_knows old new j b h l t = ⊎_elim
      (λ (is : j ≡ i). ap (λ (n : ℕ). bit_at n b) (ap (λ (k : ℕ). slice_index (set into i x) k) is ∙ get_or-set_same into i x 0 inside) ∙ new b l (shows_more b (ap (λ (k : ℕ). shows v k b) (sym is) ∙ t)))
      (λ (is : j ≡ i → ⊥). ap (λ (n : ℕ). bit_at n b) (get_or-set_other into i j x 0 is) ∙ old j b (omega arith) l t)
      (cases_eq j i)

  -- what was told of a word that was read stays so
  pub step_told : (H : View → ℕ → ℕ → Type 0) → ((j : ℕ) → j < i → H (read_until v into j) j (slice_index into j)) → H (read_so_far v into i) i x
      → (j : ℕ) → j < i + 1 → H (read_until v (set into i x) j) j (slice_index (set into i x) j)
  step_told H old new j h = ⊎_elim
      (λ (is : j ≡ i). subst (λ (k : ℕ). H (read_until v (set into i x) k) k (slice_index (set into i x) k)) (sym is)
      (subst (λ (n : ℕ). H (read_until v (set into i x) i) i n) (sym (get_or-set_same into i x 0 inside))
      (subst (λ (l : List ℕ). H (with_readings v (readings_from 0 l)) i x) (sym (take-set-le i into i x (omega arith))) new)))
      (λ (is : j ≡ i → ⊥).
      subst (λ (n : ℕ). H (read_until v (set into i x) j) j n) (sym (get_or-set_other into i j x 0 is))
      (subst (λ (l : List ℕ). H (with_readings v (readings_from 0 l)) j (slice_index into j)) (sym (take-set-le j into i x (omega arith))) (old j (omega arith))))
      (cases_eq j i)
