-- A day among those of a book, from a place on, and how many days are none of them.
use Rattle.std.proofs.Common.{◌≡◌, ℕ, zero, suc, ◌+◌, ◌≤◌, Bool, true, not, ◌||◌, cond, List, [], ◌∷◌, length, map, take, drop, sym, refl, ap, ◌∙◌, arith}
use Rattle.std.specs.Prelude.{Option, Some, None, count_by, option_map, slice_get, unwrap_or}
use Rattle.std.proofs.lemmas.Bool.{eq-eqb, ne_eqb, or_left}
use Rattle.std.proofs.lemmas.List.{take_all}
use Rattle.std.proofs.lemmas.List.Sums.{sum_by-cons}
use Rattle.day_partitions.specs.Batches.{new_days}
use Rattle.day_partitions.specs.Books.{KeptDay, has_day}
use Rattle.day_partitions.specs.declared.dated_sheet.DatedSheet.{DatedSheet}
use Rattle.batch_sheets.specs.Splitting.{sheet_day}

abbrev day_of : KeptDay → ℕ
day_of k = k.day

some_day : (k : KeptDay) (d : ℕ) → ◌≡◌ {A = Option ℕ} (Some k.day) (Some d) → k.day ≡ d
some_day k d e = ap (λ (o : Option ℕ). unwrap_or o 0) e

-- where another day stands at a place, the day is one of those after it or none
pub day_further : (days : List KeptDay) (i d day : ℕ) → option_map day_of (slice_get days i) ≡ Some d → (d ≡ day → ⊥) → has_day (drop i days) day ≡ has_day (drop (i + 1) days) day
day_further [] i d day e n = absurd (let none : ◌≡◌ {A = Option ℕ} None (Some d) = e in cc)
day_further (k ∷ ks) zero d day e n = ap (λ (b : Bool). b || has_day ks day) (ne_eqb k.day day (λ s. n (sym (some_day k d e) ∙ s)))
day_further (k ∷ ks) (suc i) d day e n = day_further ks i d day e n ∙ (let s : suc (i + 1) ≡ suc i + 1 = omega arith in ap (λ (j : ℕ). has_day (drop j (k ∷ ks)) day) s)

-- where the day stands at a place, it is one of those from there on
pub day_there : (days : List KeptDay) (i d day : ℕ) → option_map day_of (slice_get days i) ≡ Some d → d ≡ day → has_day (drop i days) day ≡ true
day_there [] i d day e s = absurd (let none : ◌≡◌ {A = Option ℕ} None (Some d) = e in cc)
day_there (k ∷ ks) zero d day e s = or_left _ _ (eq-eqb k.day day (some_day k d e ∙ s))
day_there (k ∷ ks) (suc i) d day e s = day_there ks i d day e s

-- how many of these days are none of the book's
abbrev pub count_none : List KeptDay → List ℕ → ℕ
count_none kept days = count_by (λ (day : ℕ). not (has_day kept day)) days

-- as many sheets are of new days as there are new days
pub new_by_day : (kept : List KeptDay) (sheets : List DatedSheet) → new_days kept sheets ≡ count_none kept (map sheet_day sheets)
new_by_day kept [] = refl
new_by_day kept (s ∷ ss) =
    sum_by-cons (λ (r : DatedSheet). cond (not (has_day kept r.day)) 1 0) s ss
    ∙ ap (λ n. cond (not (has_day kept s.day)) 1 0 + n) (new_by_day kept ss)
    ∙ sym (sum_by-cons (λ (day : ℕ). cond (not (has_day kept day)) 1 0) s.day (map sheet_day ss))

-- all days are counted
pub all_counted : (kept : List KeptDay) (days : List ℕ) (i new : ℕ) → new ≡ count_none kept (take i days) → length days ≤ i → (sheets : List DatedSheet) → map sheet_day sheets ≡ days → new ≡ new_days kept sheets
all_counted kept days i new counted all sheets are = counted ∙ ap (count_none kept) (take_all i days all ∙ sym are) ∙ sym (new_by_day kept sheets)
