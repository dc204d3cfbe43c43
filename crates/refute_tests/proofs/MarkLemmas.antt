-- Marks of names and of pairs, one word at a time.
use Rattle.std.proofs.Common.{◌≡◌, ℕ, ◌+◌, ◌-◌, ◌*◌, ◌/◌, ◌%◌, ◌^◌, ◌<◌, ◌≤◌, Bool, ◌&&◌, ◌||◌, ◌==◌, nat_lt, min, bit_or, bit_and, List, length, get_or, set, get_or-set_same, get_or-set_other, sym, ap, ◌∙◌, ⊎_elim, arith}
use Rattle.std.proofs.Math.Nat.{mod-eq_of_lt, mod-lt}
use Rattle.std.proofs.Math.Pow.{pow_mono}
use Rattle.std.proofs.lemmas.Bool.{cases_eq, cases_lt, and_parts, and_from, eq-eqb, eqb-true, ne_eqb, lt-ltb, le-ltb}
use Rattle.std.proofs.lemmas.Nat.{pow_pos}
use Rattle.std.proofs.lemmas.Nat.Bits.{bit_at_cat_low, bit_at_cat_high, bit_at_and, bit_at_ones, bit_at_ones_above, bit_at-lt, bit_at-zero, bit_at-pow_same, bit_at-pow_other}
use Rattle.std.specs.Int.{bit_at}
use Rattle.trace_types.proofs.TruthLemmas.{by_truth}
use Rattle.word_rows.proofs.ViewLemmas.{or_false}
use Rattle.word_rows.proofs.MakerLemmas.{either_bit}
use Rattle.refute_tests.specs.inner.Marks.{has_mark}

-- ---- bits of one word
pub one_bit : (q b : ℕ) → q < 64 → (bit_at (1 * 2 ^ q % 2 ^ 64) b == 1) ≡ (b == q)
one_bit q b h =
    let l : 1 * 2 ^ q < 2 ^ 64 = one_less q h in
    let plain : 1 * 2 ^ q % 2 ^ 64 ≡ 2 ^ q = mod-eq_of_lt l ∙ omega arith in
    ap (λ (n : ℕ). bit_at n b == 1) plain ∙ ⊎_elim
    (λ (e : b ≡ q). ap (λ (k : ℕ). bit_at (2 ^ q) k == 1) e ∙ eq-eqb (bit_at (2 ^ q) q) 1 (bit_at-pow_same q) ∙ sym (eq-eqb b q e))
    (λ (e : b ≡ q → ⊥). ne_eqb (bit_at (2 ^ q) b) 1 (λ g. let z = bit_at-pow_other q b e in omega arith) ∙ sym (ne_eqb b q e))
    (cases_eq b q)
  where
    one_less : (q : ℕ) → q < 64 → 1 * 2 ^ q < 2 ^ 64
    one_less q h = let m = pow_mono {i = q} {j = 63} (omega arith) in omega (arith, m)

-- the low bits of a word
pub low_bits : (x m b : ℕ) → m < 64 → (bit_at (bit_and x (1 * 2 ^ m % 2 ^ 64 - 1)) b == 1) ≡ (nat_lt b m && (bit_at x b == 1))
low_bits x m b h =
    let l : 1 * 2 ^ m < 2 ^ 64 = let w = pow_mono {i = m} {j = 63} (omega arith) in omega (arith, w) in
    let plain : 1 * 2 ^ m % 2 ^ 64 - 1 ≡ 2 ^ m - 1 = ap (λ (n : ℕ). n - 1) (mod-eq_of_lt l ∙ omega arith) in
    ap (λ (n : ℕ). bit_at (bit_and x n) b == 1) plain ∙ ap (λ (n : ℕ). n == 1) (bit_at_and x (2 ^ m - 1) b) ∙ ⊎_elim
    (λ (e : b < m). ap (λ (n : ℕ). min (bit_at x b) n == 1) (bit_at_ones m b e) ∙ ap (λ (n : ℕ). n == 1) (let z = bit_at-lt x b in let s : min (bit_at x b) 1 ≡ bit_at x b = omega arith in s) ∙ ap (λ (p : Bool). p && (bit_at x b == 1)) (sym (lt-ltb b m e)))
    (λ (e : m ≤ b). ap (λ (n : ℕ). min (bit_at x b) n == 1) (bit_at_ones_above m b e) ∙ ap (λ (n : ℕ). n == 1) (let s : min (bit_at x b) 0 ≡ 0 = omega arith in s) ∙ ap (λ (p : Bool). p && (bit_at x b == 1)) (sym (le-ltb b m e)))
    (cases_lt b m)

-- a bit of a word of 64 bits, of a number that may have more
within : (y b : ℕ) → b < 64 → bit_at (y % 2 ^ 64) b ≡ bit_at y b
within y b h = sym (bit_at_cat_low (y / 2 ^ 64) 64 (y % 2 ^ 64) b h) ∙ ap (λ (n : ℕ). bit_at n b) (let s : y / 2 ^ 64 * 2 ^ 64 + y % 2 ^ 64 ≡ y = omega arith in s)

-- shifted up
pub up_low : (x q b : ℕ) → b < 64 → b < q → bit_at (x * 2 ^ q % 2 ^ 64) b ≡ 0
up_low x q b h l = within (x * 2 ^ q) b h ∙ ap (λ (n : ℕ). bit_at n b) (let s : x * 2 ^ q ≡ x * 2 ^ q + 0 = omega arith in s) ∙ bit_at_cat_low x q 0 b l ∙ bit_at-zero b

pub up_high : (x q b : ℕ) → b < 64 → q ≤ b → bit_at (x * 2 ^ q % 2 ^ 64) b ≡ bit_at x (b - q)
up_high x q b h l = within (x * 2 ^ q) b h ∙ ap (λ (n : ℕ). bit_at n b) (let s : x * 2 ^ q ≡ x * 2 ^ q + 0 = omega arith in s) ∙ bit_at_cat_high x q 0 b (pow_pos q) l

-- shifted down
pub down : (x a b : ℕ) → bit_at (x / 2 ^ a) b ≡ bit_at x (a + b)
down x a b =
    let p = pow_pos a in
    let small : x % 2 ^ a < 2 ^ a = mod-lt x p in
    let whole : x / 2 ^ a * 2 ^ a + x % 2 ^ a ≡ x = omega (arith, p) in
    let high = bit_at_cat_high (x / 2 ^ a) a (x % 2 ^ a) (a + b) small (omega arith) in
    let rest : a + b - a ≡ b = omega arith in
    sym (ap (λ (n : ℕ). bit_at n (a + b)) (sym whole) ∙ high ∙ ap (λ (n : ℕ). bit_at (x / 2 ^ a) n) rest)

-- ---- a word of marks
pub read_at : (words : List ℕ) (w k c : ℕ) → k < 16 → has_mark words (16 * w + k) c ≡ (bit_at (get_or words w 0) (4 * k + c) == 1)
read_at words w k c h =
    let i : (16 * w + k) / 16 ≡ w = omega arith in
    let r : 4 * ((16 * w + k) % 16) + c ≡ 4 * k + c = omega arith in
    λ j. bit_at (get_or words (i j) 0) (r j) == 1

-- more bits in one word
pub more_marks : (words : List ℕ) (w v n c : ℕ) → w < length words → has_mark (set words w (bit_or (get_or words w 0) v)) n c ≡ (has_mark words n c || ((n / 16 == w) && (bit_at v (4 * (n % 16) + c) == 1)))
more_marks words w v n c h = ⊎_elim
    (λ (e : n / 16 ≡ w).
    ap (λ (m : ℕ). bit_at (get_or (set words w (bit_or (get_or words w 0) v)) m 0) (4 * (n % 16) + c) == 1) e
    ∙ ap (λ (m : ℕ). bit_at m (4 * (n % 16) + c) == 1) (get_or-set_same words w (bit_or (get_or words w 0) v) 0 h)
    ∙ either_bit (get_or words w 0) v (4 * (n % 16) + c)
    ∙ ap (λ (m : ℕ). (bit_at (get_or words m 0) (4 * (n % 16) + c) == 1) || (bit_at v (4 * (n % 16) + c) == 1)) (sym e)
    ∙ ap (λ (p : Bool). has_mark words n c || (p && (bit_at v (4 * (n % 16) + c) == 1))) (sym (eq-eqb (n / 16) w e)))
    (λ (e : n / 16 ≡ w → ⊥).
    ap (λ (m : ℕ). bit_at m (4 * (n % 16) + c) == 1) (get_or-set_other words w (n / 16) (bit_or (get_or words w 0) v) 0 e)
    ∙ sym (or_false (has_mark words n c))
    ∙ ap (λ (p : Bool). has_mark words n c || (p && (bit_at v (4 * (n % 16) + c) == 1))) (sym (ne_eqb (n / 16) w e)))
    (cases_eq (n / 16) w)

pub add_one : (words : List ℕ) (name mark n c : ℕ) → name / 16 < length words → mark < 4 → c < 4
    → has_mark (set words (name / 16) (bit_or (get_or words (name / 16) 0) (1 * 2 ^ (4 * (name % 16) + mark) % 2 ^ 64))) n c ≡ (has_mark words n c || ((n == name) && (c == mark)))
add_one words name mark n c h m l =
    more_marks words (name / 16) (1 * 2 ^ (4 * (name % 16) + mark) % 2 ^ 64) n c h
    ∙ ap (λ (p : Bool). has_mark words n c || ((n / 16 == name / 16) && p)) (one_bit (4 * (name % 16) + mark) (4 * (n % 16) + c) (omega arith))
    ∙ ap (λ (p : Bool). has_mark words n c || p) (by_truth ((n / 16 == name / 16) && (4 * (n % 16) + c == 4 * (name % 16) + mark)) ((n == name) && (c == mark))
    (λ t. let p = and_parts (n / 16 == name / 16) (4 * (n % 16) + c == 4 * (name % 16) + mark) t in
    let a = eqb-true (n / 16) (name / 16) p.0 in let b = eqb-true (4 * (n % 16) + c) (4 * (name % 16) + mark) p.1 in
    and_from (n == name) (c == mark) (eq-eqb n name (omega arith)) (eq-eqb c mark (omega arith)))
    (λ t. let p = and_parts (n == name) (c == mark) t in
    let a = eqb-true n name p.0 in let b = eqb-true c mark p.1 in
    and_from (n / 16 == name / 16) (4 * (n % 16) + c == 4 * (name % 16) + mark) (eq-eqb (n / 16) (name / 16) (omega arith)) (eq-eqb (4 * (n % 16) + c) (4 * (name % 16) + mark) (omega arith))))

-- ---- the names below a greater one
-- a word of marks, of the names from 16 * w on that are below this one
abbrev pub Below : List ℕ → ℕ → ℕ → ℕ → Type 0
Below marks w greater x = (k c : ℕ) → k < 16 → c < 4 → (bit_at x (4 * k + c) == 1) ≡ (nat_lt (16 * w + k) greater && has_mark marks (16 * w + k) c)

pub none_below : (marks : List ℕ) (w greater : ℕ) → greater ≤ 16 * w → Below marks w greater 0
none_below marks w greater h k c l m =
    ap (λ (n : ℕ). n == 1) (bit_at-zero (4 * k + c)) ∙ ap (λ (p : Bool). p && has_mark marks (16 * w + k) c) (sym (le-ltb (16 * w + k) greater (omega arith)))

pub all_below : (marks : List ℕ) (w greater : ℕ) → 16 * w + 16 ≤ greater → Below marks w greater (get_or marks w 0)
all_below marks w greater h k c l m =
    sym (read_at marks w k c l) ∙ ap (λ (p : Bool). p && has_mark marks (16 * w + k) c) (sym (lt-ltb (16 * w + k) greater (omega arith)))

pub some_below : (marks : List ℕ) (w greater : ℕ) → greater < 16 * w + 16 → 16 * w < greater → Below marks w greater (bit_and (get_or marks w 0) (1 * 2 ^ (4 * (greater - 16 * w)) % 2 ^ 64 - 1))
some_below marks w greater h g k c l m =
    low_bits (get_or marks w 0) (4 * (greater - 16 * w)) (4 * k + c) (omega arith)
    ∙ ap (λ (p : Bool). nat_lt (4 * k + c) (4 * (greater - 16 * w)) && p) (sym (read_at marks w k c l))
    ∙ ap (λ (p : Bool). p && has_mark marks (16 * w + k) c) (⊎_elim
    (λ (e : k < greater - 16 * w). lt-ltb (4 * k + c) (4 * (greater - 16 * w)) (omega arith) ∙ sym (lt-ltb (16 * w + k) greater (omega arith)))
    (λ (e : greater - 16 * w ≤ k). le-ltb (4 * k + c) (4 * (greater - 16 * w)) (omega arith) ∙ sym (le-ltb (16 * w + k) greater (omega arith)))
    (cases_lt k (greater - 16 * w)))
