-- Bits of a word that lost those of a mask.
use Rattle.std.proofs.Common.{◌≡◌, ℕ, zero, suc, ◌+◌, ◌-◌, ◌^◌, ◌<◌, ◌%◌, min, true, false, ◌&&◌, ◌||◌, ◌==◌, Bool, cond, List, length, bit_and, slice_index, slice_set, sym, refl, ap, ◌∙◌, subst, ⊎_elim, ◌⊎◌, inl, inr, arith, get_or-set_same, get_or-set_other, length-set}
use Rattle.std.proofs.lemmas.Bool.{cases_eq, cases_Bool, and_parts, and_from, and_left, eqb-true, eqb-false, eq-eqb, ne_eqb, cond-true, cond-false}
use Rattle.std.proofs.lemmas.Nat.Bits.{bit_at_and, bit_at_xor, bit_at_not, bit_at-lt, same_from_bits_below}
use Rattle.std.proofs.lemmas.Nat.{and_le_l, xor_lt}
use Rattle.std.specs.Int.{bit_at, bit_not, w64}
use Rattle.word_rows.specs.declared.entries.Entry.{Entry}
use Rattle.word_rows.specs.Rows.{entry_clears}
use Rattle.word_rows.specs.Meeting.{ComplementClears}
use Rattle.word_rows.specs.Words.{AreWords, bit_of, without, without_entry}

bit_without : (n m b : ℕ) → bit_at (without n m) b ≡ (bit_at n b + min (bit_at n b) (bit_at m b)) % 2
bit_without n m b = bit_at_xor n (bit_and n m) b ∙ ap (λ (k : ℕ). (bit_at n b + k) % 2) (bit_at_and n m b)

low_lost : (x y : ℕ) → x < 2 → y < 2 → (x + min x y) % 2 ≡ 0 → (x ≡ 0) ⊎ (y ≡ 1)
low_lost zero y hx hy e = inl refl
low_lost (suc x) y hx hy e = inr (omega arith)

low_goes : (x y : ℕ) → x < 2 → (x ≡ 0) ⊎ (y ≡ 1) → (x + min x y) % 2 ≡ 0
low_goes x y h c = ⊎_elim (λ (z : x ≡ 0). omega arith) (λ (o : y ≡ 1). omega arith) c

low_same : (x y : ℕ) → x < 2 → y < 2 → min x (1 - y) ≡ (x + min x y) % 2
low_same zero y hx hy = omega arith
low_same (suc x) zero hx hy = omega arith
low_same (suc x) (suc y) hx hy = omega arith

-- to keep the complement of a mask is to clear the mask
pub complement_clears : ComplementClears
complement_clears n m hn hm = same_from_bits_below 64 _ _ (let l = and_le_l n (bit_not w64 m) in omega arith) (xor_lt 64 n (bit_and n m) hn (let l = and_le_l n m in omega arith))
    (λ i h. bit_at_and n (bit_not w64 m) i ∙ ap (λ (k : ℕ). min (bit_at n i) k) (bit_at_not w64 m i hm h) ∙ low_same (bit_at n i) (bit_at m i) (bit_at-lt n i) (bit_at-lt m i) ∙ sym (bit_without n m i))

-- a word without the bits of a mask has no more bits
without_less : (n mask : ℕ) → n < 2 ^ 64 → without n mask < 2 ^ 64
without_less n mask h = xor_lt 64 n (bit_and n mask) h (let l = and_le_l n mask in omega arith)

module _ (words : List ℕ) (e : Entry) (i b : ℕ) (inside : i < length words) where
  abbrev was : ℕ
  was = slice_index words i

  abbrev now : ℕ
  now = slice_index (without_entry words e) i

  same_word : e.word ≡ i → now ≡ without was e.mask
  same_word is = subst (λ (k : ℕ). slice_index (slice_set words k (without (slice_index words k) e.mask)) i ≡ without was e.mask) (sym is) (get_or-set_same words i _ 0 inside)

  other_word : (e.word ≡ i → ⊥) → now ≡ was
  other_word is = get_or-set_other words e.word i _ 0 (λ h. is (sym h))

  -- a bit that is 0 was so before, or the entry cleared it
  pub bit_lost : bit_at now b ≡ 0 → (bit_at was b ≡ 0) ⊎ (entry_clears e i b ≡ true)
  bit_lost z = ⊎_elim
      (λ (is : e.word ≡ i). let m : (bit_at was b + min (bit_at was b) (bit_at e.mask b)) % 2 ≡ 0 = sym (bit_without was e.mask b) ∙ ap (λ (k : ℕ). bit_at k b) (sym (same_word is)) ∙ z in
      ⊎_elim (λ (h : bit_at was b ≡ 0). inl h) (λ (h : bit_at e.mask b ≡ 1). inr (and_from _ _ (eq-eqb e.word i is) (eq-eqb (bit_at e.mask b) 1 h))) (low_lost (bit_at was b) (bit_at e.mask b) (bit_at-lt was b) (bit_at-lt e.mask b) m))
      (λ (is : e.word ≡ i → ⊥). inl (ap (λ (k : ℕ). bit_at k b) (sym (other_word is)) ∙ z))
      (cases_eq e.word i)

  here : e.word ≡ i → (bit_at was b ≡ 0) ⊎ (bit_at e.mask b ≡ 1) → bit_at now b ≡ 0
  here is c = ap (λ (k : ℕ). bit_at k b) (same_word is) ∙ bit_without was e.mask b ∙ low_goes (bit_at was b) (bit_at e.mask b) (bit_at-lt was b) c

  -- a bit that was 0 stays so
  pub bit_stays : bit_at was b ≡ 0 → bit_at now b ≡ 0
  bit_stays z = ⊎_elim (λ (is : e.word ≡ i). here is (inl z)) (λ (is : e.word ≡ i → ⊥). ap (λ (k : ℕ). bit_at k b) (other_word is) ∙ z) (cases_eq e.word i)

  -- a bit that the entry clears is 0
  pub bit_goes : entry_clears e i b ≡ true → bit_at now b ≡ 0
  bit_goes t = let p = and_parts (e.word == i) (bit_at e.mask b == 1) t in here (eqb-true e.word i p.0) (inr (eqb-true (bit_at e.mask b) 1 p.1))

-- an entry leaves words of 64 bits
pub entry_bound : (words : List ℕ) (e : Entry) → AreWords words → AreWords (without_entry words e)
entry_bound words e small i h =
    let inside : i < length words = subst (λ (n : ℕ). i < n) (length-set words e.word _) h in ⊎_elim
    (λ (is : e.word ≡ i). subst (λ (n : ℕ). n < 2 ^ 64) (sym (same_word words e i 0 inside is)) (without_less (slice_index words i) e.mask (small i inside)))
    (λ (is : e.word ≡ i → ⊥). subst (λ (n : ℕ). n < 2 ^ 64) (sym (other_word words e i 0 inside is)) (small i inside))
    (cases_eq e.word i)

-- ---- one write with the complement of a mask
kept_bit : (n m b : ℕ) → m < 2 ^ 64 → b < 64 → bit_at (bit_and n (bit_not w64 m)) b ≡ cond (bit_at m b == 1) 0 (bit_at n b)
kept_bit n m b hm h =
    let x : ℕ = bit_at n b in let y : ℕ = bit_at m b in
    let e : bit_at (bit_and n (bit_not w64 m)) b ≡ min x (1 - y) = bit_at_and n (bit_not w64 m) b ∙ ap (λ (k : ℕ). min x k) (bit_at_not w64 m b hm h) in
    let lx = bit_at-lt n b in let ly = bit_at-lt m b in
    ⊎_elim
    (λ (t : (y == 1) ≡ true). let o : y ≡ 1 = eqb-true y 1 t in e ∙ (let z : min x (1 - y) ≡ 0 = omega arith in z) ∙ sym (cond-true _ 0 x t))
    (λ (f : (y == 1) ≡ false). let o = eqb-false y 1 f in e ∙ (let z : min x (1 - y) ≡ x = omega arith in z) ∙ sym (cond-false _ 0 x f))
    (cases_Bool (y == 1))

pub cond_or : (c d : Bool) (x : ℕ) → cond d 0 (cond c 0 x) ≡ cond (c || d) 0 x
cond_or true true x = refl
cond_or true false x = refl
cond_or false true x = refl
cond_or false false x = refl

-- where some bits were cleared, a write of a word with the complement of a mask clears those of the entry too
pub write_clears : (words : List ℕ) (e : Entry) (old i b : ℕ) (c : Bool) → i < length words → b < 64 → e.mask < 2 ^ 64 → bit_of words i b ≡ cond c 0 old
    → bit_of (slice_set words e.word (bit_and (slice_index words e.word) (bit_not w64 e.mask))) i b ≡ cond (c || entry_clears e i b) 0 old
write_clears words e old i b c h l small before = let value : ℕ = slice_index words e.word in let new : ℕ = bit_and value (bit_not w64 e.mask) in ⊎_elim
    (λ (same : e.word ≡ i).
    let first : bit_of (slice_set words e.word new) i b ≡ bit_at new b = ap (λ (n : ℕ). bit_at n b) (subst (λ (k : ℕ). slice_index (slice_set words k new) i ≡ new) (sym same) (get_or-set_same words i new 0 h)) in
    let word : bit_at value b ≡ cond c 0 old = ap (λ (k : ℕ). bit_of words k b) same ∙ before in
    let here : entry_clears e i b ≡ (bit_at e.mask b == 1) = ap (λ (t : Bool). t && (bit_at e.mask b == 1)) (eq-eqb e.word i same) in
    first ∙ kept_bit value e.mask b small l ∙ ap (λ (n : ℕ). cond (bit_at e.mask b == 1) 0 n) word ∙ cond_or c (bit_at e.mask b == 1) old ∙ ap (λ (t : Bool). cond (c || t) 0 old) (sym here))
    (λ (apart : e.word ≡ i → ⊥).
    let first : bit_of (slice_set words e.word new) i b ≡ bit_of words i b = ap (λ (n : ℕ). bit_at n b) (get_or-set_other words e.word i new 0 (λ s. apart (sym s))) in
    let here : entry_clears e i b ≡ false = and_left (e.word == i) (bit_at e.mask b == 1) (ne_eqb e.word i apart) in
    first ∙ before ∙ cond_or c false old ∙ ap (λ (t : Bool). cond (c || t) 0 old) (sym here))
    (cases_eq e.word i)
