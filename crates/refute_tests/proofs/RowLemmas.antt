-- A row of marks, shifted to its place in the table.
use Rattle.std.proofs.Common.{◌≡◌, ℕ, ◌+◌, ◌-◌, ◌*◌, ◌/◌, ◌%◌, ◌^◌, ◌<◌, ◌≤◌, Bool, ◌&&◌, ◌||◌, ◌==◌, nat_lt, nat_le, bit_or, List, length, get_or, set, refl, sym, ap, ◌∙◌, ⊎_elim, arith}
use Rattle.std.proofs.lemmas.Bool.{cases_eq, cases_lt, eq-eqb, ne_eqb, lt-ltb, le-ltb, le-leb, lt-leb, and_parts, ltb-true}
use Rattle.std.proofs.lemmas.Nat.Bits.{bit_at_above}
use Rattle.std.specs.Int.{bit_at}
use Rattle.hypothesis_index.specs.Places.{pairs_below}
use Rattle.trace_types.proofs.TruthLemmas.{by_truth}
use Rattle.word_rows.proofs.ViewLemmas.{or_false}
use Rattle.word_rows.proofs.MakerLemmas.{either_bit}
use Rattle.refute_tests.proofs.MarkLemmas.{Below, down, more_marks, up_high, up_low}
use Rattle.refute_tests.specs.inner.Marks.{has_mark, in_row}

module _ (marks : List ℕ) (g row word v : ℕ) (first : row ≡ pairs_below g) (at : word ≡ row / 16 + v) where
  -- the mark of a pair of the row
  abbrev out : ℕ → ℕ → Bool
  out p c = in_row g p && has_mark marks (p - pairs_below g) c

  -- the lesser name of the pair, counted in its word
  here : (k p m c : ℕ) → p ≡ 16 * word + k → row % 16 ≤ 16 * v + k → m + row % 16 ≡ 16 * v + k
      → (nat_lt m g && has_mark marks m c) ≡ out p c
  here k p m c ep le em =
      let same : p - pairs_below g ≡ m = omega arith in
      let low = le-leb (pairs_below g) p (omega arith) in
      ap (λ (n : ℕ). nat_lt m g && has_mark marks n c) (sym same)
      ∙ ap (λ (b : Bool). b && has_mark marks (p - pairs_below g) c) (⊎_elim
      (λ (h : m < g). lt-ltb m g h ∙ sym (ap (λ (b : Bool). b && nat_lt p (pairs_below g + g)) low ∙ lt-ltb p (pairs_below g + g) (omega arith)))
      (λ (h : g ≤ m). le-ltb m g h ∙ sym (ap (λ (b : Bool). b && nat_lt p (pairs_below g + g)) low ∙ le-ltb p (pairs_below g + g) (omega arith)))
      (cases_lt m g))

  pub low : (x : ℕ) → Below marks v g x → (k c : ℕ) → k < 16 → c < 4 → (bit_at (x * 2 ^ (4 * (row % 16)) % 2 ^ 64) (4 * k + c) == 1) ≡ (nat_le (row % 16) k && out (16 * word + k) c)
  low x below k c h l = ⊎_elim
      (λ (e : k < row % 16).
      ap (λ (n : ℕ). n == 1) (up_low x (4 * (row % 16)) (4 * k + c) (omega arith) (omega arith))
      ∙ ap (λ (b : Bool). b && out (16 * word + k) c) (sym (lt-leb (row % 16) k e)))
      (λ (e : row % 16 ≤ k).
      let q : 4 * k + c - 4 * (row % 16) ≡ 4 * (k - row % 16) + c = omega arith in
      ap (λ (n : ℕ). n == 1) (up_high x (4 * (row % 16)) (4 * k + c) (omega arith) (omega arith))
      ∙ ap (λ (n : ℕ). bit_at x n == 1) q
      ∙ below (k - row % 16) c (omega arith) l
      ∙ here k (16 * word + k) (16 * v + (k - row % 16)) c refl (omega arith) (omega arith)
      ∙ ap (λ (b : Bool). b && out (16 * word + k) c) (sym (le-leb (row % 16) k e)))
      (cases_lt k (row % 16))

  pub high : (x : ℕ) → x < 2 ^ 64 → Below marks v g x → (k c : ℕ) → k < 16 → c < 4 → (bit_at (x / 2 ^ (60 - 4 * (row % 16)) / 2 ^ 4) (4 * k + c) == 1) ≡ (nat_lt (4 * k) (4 * (row % 16)) && out (16 * (word + 1) + k) c)
  high x small below k c h l =
      let moved = down (x / 2 ^ (60 - 4 * (row % 16))) 4 (4 * k + c) ∙ down x (60 - 4 * (row % 16)) (4 + (4 * k + c)) in
      ap (λ (n : ℕ). n == 1) moved ∙ ⊎_elim
      (λ (e : k < row % 16).
      let q : 60 - 4 * (row % 16) + (4 + (4 * k + c)) ≡ 4 * (k + 16 - row % 16) + c = omega arith in
      ap (λ (n : ℕ). bit_at x n == 1) q
      ∙ below (k + 16 - row % 16) c (omega arith) l
      ∙ here (k + 16) (16 * (word + 1) + k) (16 * v + (k + 16 - row % 16)) c (omega arith) (omega arith) (omega arith)
      ∙ ap (λ (b : Bool). b && out (16 * (word + 1) + k) c) (sym (lt-ltb (4 * k) (4 * (row % 16)) (omega arith))))
      (λ (e : row % 16 ≤ k).
      ap (λ (n : ℕ). n == 1) (bit_at_above x 64 (60 - 4 * (row % 16) + (4 + (4 * k + c))) small (omega arith))
      ∙ ap (λ (b : Bool). b && out (16 * (word + 1) + k) c) (sym (le-ltb (4 * k) (4 * (row % 16)) (omega arith))))
      (cases_lt k (row % 16))

  either_side : (k r : ℕ) (o : Bool) → ((nat_lt (4 * k) (4 * r) && o) || (nat_le r k && o)) ≡ o
  either_side k r o = ⊎_elim
      (λ (e : k < r). (λ j. (lt-ltb (4 * k) (4 * r) (omega arith) j && o) || (lt-leb r k e j && o)) ∙ or_false o)
      (λ (e : r ≤ k). (λ j. (le-ltb (4 * k) (4 * r) (omega arith) j && o) || (le-leb r k e j && o)))
      (cases_lt k r)

  -- the word that is added to the table
  pub whole : (carry x : ℕ) → Below marks v g x
      → ((k c : ℕ) → k < 16 → c < 4 → (bit_at carry (4 * k + c) == 1) ≡ (nat_lt (4 * k) (4 * (row % 16)) && out (16 * word + k) c))
      → (k c : ℕ) → k < 16 → c < 4 → (bit_at (bit_or carry (x * 2 ^ (4 * (row % 16)) % 2 ^ 64)) (4 * k + c) == 1) ≡ out (16 * word + k) c
  whole carry x below carried k c h l =
      either_bit carry (x * 2 ^ (4 * (row % 16)) % 2 ^ 64) (4 * k + c)
      ∙ (λ j. carried k c h l j || low x below k c h l j)
      ∙ either_side k (row % 16) (out (16 * word + k) c)

  pub added : (table old : List ℕ) (mask : ℕ) → word < length table
      → ((k c : ℕ) → k < 16 → c < 4 → (bit_at mask (4 * k + c) == 1) ≡ out (16 * word + k) c)
      → ((p c : ℕ) → c < 4 → has_mark table p c ≡ (has_mark old p c || (nat_lt p (16 * word) && out p c)))
      → (p c : ℕ) → c < 4 → has_mark (set table word (bit_or (get_or table word 0) mask)) p c ≡ (has_mark old p c || (nat_lt p (16 * (word + 1)) && out p c))
  added table old mask h masked so p c l =
      more_marks table word mask p c h
      ∙ ap (λ (b : Bool). b || ((p / 16 == word) && (bit_at mask (4 * (p % 16) + c) == 1))) (so p c l)
      ∙ ⊎_elim
      (λ (e : p / 16 ≡ word).
      let same : 16 * word + p % 16 ≡ p = omega arith in
      (λ j. (has_mark old p c || (le-ltb p (16 * word) (omega arith) j && out p c)) || (eq-eqb (p / 16) word e j && (bit_at mask (4 * (p % 16) + c) == 1)))
      ∙ ap (λ (b : Bool). b || (bit_at mask (4 * (p % 16) + c) == 1)) (or_false (has_mark old p c))
      ∙ ap (λ (b : Bool). has_mark old p c || b) (masked (p % 16) c (omega arith) l ∙ ap (λ (n : ℕ). out n c) same)
      ∙ ap (λ (b : Bool). has_mark old p c || (b && out p c)) (sym (lt-ltb p (16 * (word + 1)) (omega arith))))
      (λ (e : p / 16 ≡ word → ⊥).
      ap (λ (b : Bool). (has_mark old p c || (nat_lt p (16 * word) && out p c)) || (b && (bit_at mask (4 * (p % 16) + c) == 1))) (ne_eqb (p / 16) word e)
      ∙ or_false (has_mark old p c || (nat_lt p (16 * word) && out p c))
      ∙ ap (λ (b : Bool). has_mark old p c || (b && out p c)) (⊎_elim
      (λ (f : p < 16 * word). lt-ltb p (16 * word) f ∙ sym (lt-ltb p (16 * (word + 1)) (omega arith)))
      (λ (f : 16 * word ≤ p). le-ltb p (16 * word) f ∙ sym (le-ltb p (16 * (word + 1)) (omega arith)))
      (cases_lt p (16 * word))))
      (cases_eq (p / 16) word)

-- behind the last word of a row there is no pair of it
pub row_done : (g p last : ℕ) (m : Bool) → 0 < g → last ≡ (pairs_below g + g - 1) / 16 → (nat_lt p (16 * (last + 1)) && (in_row g p && m)) ≡ (in_row g p && m)
row_done g p last m some is = by_truth (nat_lt p (16 * (last + 1)) && (in_row g p && m)) (in_row g p && m)
    (λ t. (and_parts (nat_lt p (16 * (last + 1))) (in_row g p && m) t).1)
    (λ t.
    let q = and_parts (in_row g p) m t in
    let r = and_parts (nat_le (pairs_below g) p) (nat_lt p (pairs_below g + g)) q.0 in
    let u = ltb-true p (pairs_below g + g) r.1 in
    ap (λ (b : Bool). b && (in_row g p && m)) (lt-ltb p (16 * (last + 1)) (omega arith)) ∙ t)
