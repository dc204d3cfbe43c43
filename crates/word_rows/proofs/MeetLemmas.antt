-- Meets of words with rows, bit by bit.
use Rattle.std.proofs.Common.{◌≡◌, ℕ, ◌+◌, ◌<◌, ◌≤◌, min, Bool, true, false, ◌||◌, cond, nat_lt, List, [], ◌∷◌, length, slice_index, sym, refl, ap, ◌∙◌, subst, ⊎_elim, arith, length-append}
use Rattle.std.proofs.lemmas.Bool.{cases_lt, cond-false, false_from_ne_true, or_cases, and_parts, and_from, lt-ltb, eqb-true, ltb-true, false≢true}
use Rattle.std.proofs.lemmas.List.{same_lists, get_or_default, get_or_append_left, get_or-append_right}
use Rattle.std.proofs.lemmas.List.Folds.{list_any-append}
use Rattle.std.proofs.lemmas.List.Sorted.{list_any-IsPermutation}
use Rattle.std.proofs.lemmas.Nat.Bits.{same_from_bits_below, bit_at_and}
use Rattle.std.specs.Int.{bit_at}
use Rattle.word_rows.proofs.BitLemmas.{cond_or}
use Rattle.word_rows.specs.declared.entries.Entry.{Entry}
use Rattle.word_rows.specs.Rows.{entry_clears, clears, rows_clear, below, rows_below}
use Rattle.word_rows.specs.Words.{bit_of, full_words}
use Rattle.word_rows.specs.Meeting.{BelowWider, ClearsBelow, OrderIsFree, MeetIsUnique, MeetBegins, MeetsFollow, CommonIsMeet, WidenedMeet, MeetByBits, CommonByAnd}

cond_at : (c d : Bool) (x : ℕ) → c ≡ d → cond c 0 x ≡ cond d 0 x
cond_at c d x e = ap (λ (t : Bool). cond t 0 x) e

cond_least : (c d : Bool) (x : ℕ) → min (cond c 0 x) (cond d 0 x) ≡ cond (c || d) 0 x
cond_least true true x = omega arith
cond_least true false x = omega arith
cond_least false true x = omega arith
cond_least false false x = omega arith

pub order_is_free : OrderIsFree
order_is_free words met rows others p m = record {
  width = m.width;
  bits = λ i b h l. m.bits i b h l ∙ cond_at (rows_clear rows i b) (rows_clear others i b) (bit_of words i b) (list_any-IsPermutation (λ (row : List Entry). clears row i b) rows others p);
}

pub meet_is_unique : MeetIsUnique
meet_is_unique words met other rows small small' m n = same_lists met other (m.width ∙ sym n.width)
    (λ i d h. let h' : i < length words = subst (λ (k : ℕ). i < k) m.width h in
    get_or_default met i d 0 h
    ∙ same_from_bits_below 64 (slice_index met i) (slice_index other i) (small i h) (small' i (subst (λ (k : ℕ). i < k) (sym n.width) h')) (λ b l. m.bits i b h' l ∙ sym (n.bits i b h' l))
    ∙ sym (get_or_default other i d 0 (subst (λ (k : ℕ). i < k) (sym n.width) h')))

pub meet_begins : MeetBegins
meet_begins words = record { width = refl; bits = λ i b h l. refl }

pub meets_follow : MeetsFollow
meets_follow words met more rows others m n = record {
  width = n.width ∙ m.width;
  bits = λ i b h l. n.bits i b (subst (λ (k : ℕ). i < k) (sym m.width) h) l ∙ ap (λ (x : ℕ). cond (rows_clear others i b) 0 x) (m.bits i b h l)
      ∙ cond_or (rows_clear rows i b) (rows_clear others i b) (bit_of words i b)
      ∙ cond_at _ _ (bit_of words i b) (sym (list_any-append (λ (row : List Entry). clears row i b) rows others));
}

pub common_is_meet : CommonIsMeet
common_is_meet words met other common rows others m n c = record {
  width = c.width ∙ m.width;
  bits = λ i b h l. c.bits i b (subst (λ (k : ℕ). i < k) (sym m.width) h) l ∙ (λ j. min (m.bits i b h l j) (n.bits i b h l j))
      ∙ cond_least (rows_clear rows i b) (rows_clear others i b) (bit_of words i b)
      ∙ cond_at _ _ (bit_of words i b) (sym (list_any-append (λ (row : List Entry). clears row i b) rows others));
}

-- a row whose words are below the width clears no bit beyond it
pub clears_below : ClearsBelow
clears_below n [] i b t c = absurd (false≢true c)
clears_below n (e ∷ es) i b t c = let p = and_parts _ (below n es) t in ⊎_elim
    (λ (o : entry_clears e i b ≡ true). let q = and_parts _ _ o in subst (λ (k : ℕ). k < n) (eqb-true e.word i q.0) (ltb-true e.word n p.0))
    (λ (o : clears es i b ≡ true). clears_below n es i b p.1 o)
    (or_cases (entry_clears e i b) (clears es i b) c)

pub below_wider : BelowWider
below_wider m n [] h t = refl
below_wider m n (e ∷ es) h t = let p = and_parts (nat_lt e.word m) (below m es) t in let l = ltb-true e.word m p.0 in and_from _ _ (lt-ltb e.word n (omega arith)) (below_wider m n es h p.1)

pub rows_clear_below : (n : ℕ) (rows : List (List Entry)) (i b : ℕ) → rows_below n rows ≡ true → rows_clear rows i b ≡ true → i < n
rows_clear_below n [] i b t c = absurd (false≢true c)
rows_clear_below n (row ∷ rows) i b t c = let p = and_parts (below n row) (rows_below n rows) t in ⊎_elim
    (λ (o : clears row i b ≡ true). clears_below n row i b p.0 o)
    (λ (o : rows_clear rows i b ≡ true). rows_clear_below n rows i b p.1 o)
    (or_cases (clears row i b) (rows_clear rows i b) c)

pub widened_meet : WidenedMeet
widened_meet words met rows more named m = record {
  width = length-append met (full_words more) ∙ ap (λ (k : ℕ). k + length (full_words more)) m.width ∙ sym (length-append words (full_words more));
  bits = λ i b h l. ⊎_elim
      (λ (low : i < length words).
      ap (λ (k : ℕ). bit_at k b) (get_or_append_left met (full_words more) 0 i (subst (λ (k : ℕ). i < k) (sym m.width) low)) ∙ m.bits i b low l
      ∙ ap (λ (k : ℕ). cond (rows_clear rows i b) 0 (bit_at k b)) (sym (get_or_append_left words (full_words more) 0 i low)))
      (λ (high : length words ≤ i).
      let none : rows_clear rows i b ≡ false = false_from_ne_true _ (λ t. let low = rows_clear_below (length words) rows i b named t in absurd (omega arith)) in
      ap (λ (k : ℕ). bit_at k b) (get_or-append_right met (full_words more) (length words) i 0 m.width high ∙ sym (get_or-append_right words (full_words more) (length words) i 0 refl high))
      ∙ sym (cond-false _ 0 _ none))
      (cases_lt i (length words));
}

-- words that are met word by word
pub common_by_and : CommonByAnd
common_by_and old other new long met = record {
  width = long;
  bits = λ i b h l. ap (λ (n : ℕ). bit_at n b) (met i h) ∙ bit_at_and (slice_index old i) (slice_index other i) b;
}

pub meet_by_bits : MeetByBits
meet_by_bits words met rows others same m = record {
  width = m.width;
  bits = λ i b h l. m.bits i b h l ∙ cond_at (rows_clear rows i b) (rows_clear others i b) (bit_of words i b) (same i b h l);
}
