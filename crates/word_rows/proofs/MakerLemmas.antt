-- A row that is made bit by bit.
use Rattle.std.proofs.Common.{◌≡◌, ◌≢◌, ℕ, zero, suc, max, ◌+◌, ◌*◌, ◌%◌, ◌^◌, ◌<◌, ◌≤◌, Bool, true, false, not, ◌&&◌, ◌||◌, ◌==◌, nat_lt, List, [], ◌∷◌, ◌++◌, length, bit_or, sym, refl, ap, ◌∙◌, subst, ⊎_elim, ◌⊎◌, arith}
use Rattle.std.proofs.lemmas.Bool.{cases_eq, eq-eqb, ne_eqb, lt-ltb, ltb-true, le-ltb, and_parts, and_from, not_from_false, or_left, or_right}
use Rattle.std.proofs.lemmas.List.Folds.{list_all-append}
use Rattle.std.proofs.lemmas.Nat.{one_shl, le_or_r}
use Rattle.std.proofs.lemmas.Nat.Bits.{bit_at_or, bit_at-lt, bit_at-pow_same, bit_at-pow_other, bit_at-zero}
use Rattle.std.specs.Int.{bit_at}
use Rattle.word_rows.specs.declared.entries.Entry.{Entry}
use Rattle.word_rows.specs.Rows.{is_row, is_blank, is_ascending, below, clears, AddsBit, AddsMask}
use Rattle.word_rows.specs.inner.Making.{IsMaking}
use Rattle.word_rows.proofs.RowLemmas.{goes_on, goes_on_all}
use Rattle.word_rows.proofs.MeetLemmas.{below_wider}
use Rattle.word_rows.proofs.ViewLemmas.{or_assoc, or_false, clears_append}

-- ---- words below a bound
below_both : (n : ℕ) (xs ys : List Entry) → below n xs ≡ true → below n ys ≡ true → below n (xs ++ ys) ≡ true
below_both n xs ys h t = list_all-append _ xs ys ∙ and_from _ _ h t

below_parts : (n : ℕ) (xs ys : List Entry) → below n (xs ++ ys) ≡ true → (below n xs ≡ true) × (below n ys ≡ true)
below_parts n xs ys h = and_parts (below n xs) (below n ys) (sym (list_all-append _ xs ys) ∙ h)

below_one : (n w m : ℕ) → w < n → below n (record { word = w; mask = m } ∷ []) ≡ true
below_one n w m h = and_from _ _ (lt-ltb w n h) refl

one_below : (n w m : ℕ) → below n (record { word = w; mask = m } ∷ []) ≡ true → w < n
one_below n w m h = ltb-true w n (and_parts (nat_lt w n) true h).0

-- ---- the form of the row so far
rises_join : (low : ℕ) (xs : List Entry) (e : Entry) → goes_on low xs ≡ true → below e.word xs ≡ true → low ≤ e.word → e.mask ≢ 0 → goes_on low (xs ++ e ∷ []) ≡ true
rises_join low [] e r u l m = and_from _ _ (and_from _ _ (not_from_false _ (le-ltb e.word low l)) (not_from_false _ (ne_eqb e.mask 0 m))) refl
rises_join low (x ∷ xs) e r u l m = let p = and_parts (not (nat_lt x.word low) && not (x.mask == 0)) (goes_on (x.word + 1) xs) r in let q = and_parts (nat_lt x.word e.word) (below e.word xs) u in let k = ltb-true x.word e.word q.0 in
    and_from _ _ p.0 (rises_join (x.word + 1) xs e p.1 q.1 (omega arith) m)

joined_ascends : (done : List Entry) (e : Entry) → is_ascending done ≡ true → below e.word done ≡ true → e.mask ≢ 0 → is_ascending (done ++ e ∷ []) ≡ true
joined_ascends done e r u m = sym (goes_on_all (done ++ e ∷ [])) ∙ rises_join 0 done e (goes_on_all done ∙ r) u (omega arith) m

some_entry : (done : List Entry) (e : Entry) → not (length (done ++ e ∷ []) == 0) ≡ true
some_entry [] e = refl
some_entry (d ∷ ds) e = not_from_false _ (ne_eqb (length (d ∷ (ds ++ e ∷ []))) 0 (λ z. omega arith))

abbrev pub last : ℕ → ℕ → List Entry
last w m = record { word = w; mask = m } ∷ []

-- what was made so far has the form of a row
pub made_row : (done : List Entry) (w m : ℕ) → IsMaking done w m → is_row (done ++ last w m) ≡ true
made_row done w m s = ⊎_elim
    (λ (z : m ≡ 0). let q = s.first z in or_left _ _ (subst (λ (l : List Entry). is_blank (l ++ last w m) ≡ true) (sym q.0) (and_from _ _ (eq-eqb w 0 q.1) (eq-eqb m 0 z))))
    (λ (z : m ≡ 0 → ⊥). or_right _ _ (and_from _ _ (some_entry done (record { word = w; mask = m })) (joined_ascends done (record { word = w; mask = m }) s.ascending s.under z)))
    (cases_eq m 0)

-- ---- more bits
-- a mask of one bit adds that bit
pub one_bit_adds : (old new : List Entry) (word bit : ℕ) → bit < 64 → AddsMask old word (1 * 2 ^ bit % 2 ^ 64) new → AddsBit old word bit new
one_bit_adds old new word bit inside adds i b = adds i b ∙ ap (λ (y : Bool). clears old i b || ((word == i) && y)) one_bit
  where
    one_bit : (bit_at (1 * 2 ^ bit % 2 ^ 64) b == 1) ≡ (bit == b)
    one_bit = ap (λ (k : ℕ). bit_at k b == 1) (one_shl bit 64 inside) ∙ ⊎_elim
        (λ (e : b ≡ bit). eq-eqb _ 1 (ap (λ (k : ℕ). bit_at (2 ^ bit) k) e ∙ bit_at-pow_same bit) ∙ sym (eq-eqb bit b (sym e)))
        (λ (e : b ≡ bit → ⊥). ne_eqb _ 1 (λ h. let z = bit_at-pow_other bit b e in omega arith) ∙ sym (ne_eqb bit b (λ h. e (sym h))))
        (cases_eq b bit)

no_bit : (m b : ℕ) → m ≡ 0 → (bit_at m b == 1) ≡ false
no_bit m b z = ne_eqb _ 1 (λ h. let k = bit_at-zero b in let l : bit_at m b ≡ bit_at 0 b = ap (λ (n : ℕ). bit_at n b) z in omega arith)

-- a mask of no bit adds nothing
pub none_adds : (old : List Entry) (word mask : ℕ) → mask ≡ 0 → AddsMask old word mask old
none_adds old word mask z i b = sym (ap (λ (y : Bool). clears old i b || ((word == i) && y)) (no_bit mask b z) ∙ none (clears old i b) (word == i))
  where
    none : (c w : Bool) → (c || (w && false)) ≡ c
    none true w = refl
    none false true = refl
    none false false = refl

-- a bit of two masks together
pub either_bit : (m mask b : ℕ) → (bit_at (bit_or m mask) b == 1) ≡ ((bit_at m b == 1) || (bit_at mask b == 1))
either_bit m mask b = ap (λ (k : ℕ). k == 1) (bit_at_or m mask b) ∙ by (bit_at m b) (bit_at mask b) (bit_at-lt m b) (bit_at-lt mask b)
  where
    by : (x y : ℕ) → x < 2 → y < 2 → (max x y == 1) ≡ ((x == 1) || (y == 1))
    by zero zero h l = refl
    by zero (suc zero) h l = refl
    by (suc zero) zero h l = refl
    by (suc zero) (suc zero) h l = refl
    by (suc (suc x)) y h l = absurd (omega arith)
    by zero (suc (suc y)) h l = absurd (omega arith)
    by (suc zero) (suc (suc y)) h l = absurd (omega arith)

module _ (mask : ℕ) (set : mask ≢ 0) where
  some : (m : ℕ) → bit_or m mask ≢ 0
  some m z = let l = le_or_r m mask in set (omega arith)

  spread : (a p q : Bool) → (a && (p || q)) ≡ ((a && p) || (a && q))
  spread true p q = refl
  spread false p q = refl

  unset : (a c q : Bool) → (a && (false || q)) ≡ ((c && false) || (a && q))
  unset true true q = refl
  unset true false q = refl
  unset false true q = refl
  unset false false q = refl

  -- the entry with more bits
  entry_more : (w m word i b : ℕ) → (m ≡ 0) ⊎ (w ≡ word) → ((word == i) && (bit_at (bit_or m mask) b == 1)) ≡ (((w == i) && (bit_at m b == 1)) || ((word == i) && (bit_at mask b == 1)))
  entry_more w m word i b c = ap (λ (y : Bool). (word == i) && y) (either_bit m mask b) ∙ ⊎_elim
      (λ (z : m ≡ 0). let f : (bit_at m b == 1) ≡ false = no_bit m b z in
      ap (λ (y : Bool). (word == i) && (y || (bit_at mask b == 1))) f ∙ unset (word == i) (w == i) (bit_at mask b == 1) ∙ ap (λ (y : Bool). ((w == i) && y) || ((word == i) && (bit_at mask b == 1))) (sym f))
      (λ (s : w ≡ word). spread (word == i) (bit_at m b == 1) (bit_at mask b == 1) ∙ ap (λ (k : ℕ). ((k == i) && (bit_at m b == 1)) || ((word == i) && (bit_at mask b == 1))) (sym s))
      c

  module _ (done : List Entry) (w m word : ℕ) (s : IsMaking done w m) (reached : below (word + 1) (done ++ last w m) ≡ true) where
    parts : (below (word + 1) done ≡ true) × (below (word + 1) (last w m) ≡ true)
    parts = below_parts (word + 1) done (last w m) reached

    pub same_makes : (m ≡ 0) ⊎ (w ≡ word) → IsMaking done word (bit_or m mask)
    same_makes c = record {
      ascending = s.ascending;
      under = ⊎_elim
          (λ (z : m ≡ 0). let q = s.first z in subst (λ (l : List Entry). below word l ≡ true) (sym q.0) refl)
          (λ (e : w ≡ word). subst (λ (k : ℕ). below k done ≡ true) e s.under)
          c;
      first = λ z. absurd (some m z);
    }

    pub same_clears : (m ≡ 0) ⊎ (w ≡ word) → AddsMask (done ++ last w m) word mask (done ++ last word (bit_or m mask))
    same_clears c = λ i b. clears_append done (last word (bit_or m mask)) i b
        ∙ ap (λ (y : Bool). clears done i b || y) (or_false _ ∙ entry_more w m word i b c)
        ∙ sym (or_assoc (clears done i b) ((w == i) && (bit_at m b == 1)) ((word == i) && (bit_at mask b == 1)))
        ∙ ap (λ (y : Bool). y || ((word == i) && (bit_at mask b == 1))) (ap (λ (y : Bool). clears done i b || y) (sym (or_false _)) ∙ sym (clears_append done (last w m) i b))

    pub same_reaches : below (word + 1) (done ++ last word (bit_or m mask)) ≡ true
    same_reaches = below_both (word + 1) done (last word (bit_or m mask)) parts.0 (below_one (word + 1) word (bit_or m mask) (omega arith))

    module _ (begun : m ≢ 0) (other : w ≢ word) where
      before : w < word
      before = let l = one_below (word + 1) w m parts.1 in omega arith

      pub new_makes : IsMaking (done ++ last w m) word mask
      new_makes = record {
        ascending = joined_ascends done (record { word = w; mask = m }) s.ascending s.under begun;
        under = below_both word done (last w m) (below_wider w word done (let l = before in omega arith) s.under) (below_one word w m before);
        first = λ z. absurd (set z);
      }

      pub new_clears : AddsMask (done ++ last w m) word mask ((done ++ last w m) ++ last word mask)
      new_clears = λ i b. clears_append (done ++ last w m) (last word mask) i b ∙ ap (λ (y : Bool). clears (done ++ last w m) i b || y) (or_false _)

      pub new_reaches : below (word + 1) ((done ++ last w m) ++ last word mask) ≡ true
      new_reaches = below_both (word + 1) (done ++ last w m) (last word mask) reached (below_one (word + 1) word mask (omega arith))
