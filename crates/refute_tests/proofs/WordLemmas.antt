-- One bit of the kinds of sixteen pairs, and the places of a pair's kinds.
use Rattle.std.proofs.Common.{◌≡◌, ℕ, zero, suc, ◌+◌, ◌-◌, ◌*◌, ◌/◌, ◌%◌, ◌^◌, ◌<◌, ◌≤◌, Bool, false, ◌&&◌, ◌||◌, ◌==◌, min, bit_or, bit_and, List, get_or, refl, sym, ap, ◌∙◌, arith}
use Rattle.std.proofs.lemmas.Nat.Bits.{bit_at_and, bit_at-lt}
use Rattle.std.specs.Int.{bit_at}
use Rattle.hypothesis_index.specs.Places.{place_of, pair_place, pairs_below}
use Rattle.hypothesis_index.specs.declared.bit_place.BitPlace.{BitPlace}
use Rattle.hypothesis_index.specs.declared.relation.Relation.TheVariants.{Before, Exclusive, Apart}
use Rattle.word_rows.proofs.MakerLemmas.{either_bit}
use Rattle.refute_tests.proofs.MarkLemmas.{read_at, up_high, up_low}
use Rattle.refute_tests.proofs.MaskLemmas.{downward, upward}
use Rattle.refute_tests.specs.inner.Marks.{has_mark, kinds_word}

both_bits : (x y b : ℕ) → (bit_at (bit_and x y) b == 1) ≡ ((bit_at x b == 1) && (bit_at y b == 1))
both_bits x y b = ap (λ (k : ℕ). k == 1) (bit_at_and x y b) ∙ by (bit_at x b) (bit_at y b) (bit_at-lt x b) (bit_at-lt y b)
  where
    by : (x y : ℕ) → x < 2 → y < 2 → (min x y == 1) ≡ ((x == 1) && (y == 1))
    by zero zero h l = refl
    by zero (suc zero) h l = refl
    by (suc zero) zero h l = refl
    by (suc zero) (suc zero) h l = refl
    by (suc (suc x)) y h l = absurd (omega arith)
    by zero (suc (suc y)) h l = absurd (omega arith)
    by (suc zero) (suc (suc y)) h l = absurd (omega arith)

-- a bit of the kinds: a forward one, a backward one moved up, or both moved up
pub kind_bits : (f g b : ℕ) → (bit_at (kinds_word f g) b == 1) ≡ (((bit_at f b == 1) || (bit_at (g * 2 ^ 1 % 2 ^ 64) b == 1)) || (bit_at (bit_and f g * 2 ^ 2 % 2 ^ 64) b == 1))
kind_bits f g b = either_bit (bit_or f (g * 2 ^ 1 % 2 ^ 64)) (bit_and f g * 2 ^ 2 % 2 ^ 64) b
    ∙ ap (λ (c : Bool). c || (bit_at (bit_and f g * 2 ^ 2 % 2 ^ 64) b == 1)) (either_bit f (g * 2 ^ 1 % 2 ^ 64) b)

pub moved_one : (g b : ℕ) → b < 64 → 1 ≤ b → (bit_at (g * 2 ^ 1 % 2 ^ 64) b == 1) ≡ (bit_at g (b - 1) == 1)
moved_one g b h l = ap (λ (k : ℕ). k == 1) (up_high g 1 b h l)

pub moved_two : (f g b : ℕ) → b < 64 → 2 ≤ b → (bit_at (bit_and f g * 2 ^ 2 % 2 ^ 64) b == 1) ≡ ((bit_at f (b - 2) == 1) && (bit_at g (b - 2) == 1))
moved_two f g b h l = ap (λ (k : ℕ). k == 1) (up_high (bit_and f g) 2 b h l) ∙ both_bits f g (b - 2)

pub not_moved : (x q b : ℕ) → b < 64 → b < q → (bit_at (x * 2 ^ q % 2 ^ 64) b == 1) ≡ false
not_moved x q b h l = ap (λ (k : ℕ). k == 1) (up_low x q b h l)

-- a mark as a bit
pub mark_bit : (words : List ℕ) (w b : ℕ) → b < 64 → has_mark words (16 * w + b / 4) (b % 4) ≡ (bit_at (get_or words w 0) b == 1)
mark_bit words w b h = let k : 4 * (b / 4) + b % 4 ≡ b = omega arith in
    read_at words w (b / 4) (b % 4) (omega arith) ∙ ap (λ (n : ℕ). bit_at (get_or words w 0) n == 1) k

-- ---- the place of each kind of the pair with this number
module _ (low high p i b : ℕ) (rises : low < high) (pair : p ≡ pairs_below high + low) where
  placed : (kind : ℕ) → 126 + p / 16 ≡ i → 4 * (p % 16) + kind ≡ b → pair_place 126 low high kind ≡ record { word = i; bit = b }
  placed kind w e =
      let ew : (pair_place 126 low high kind).word ≡ i = ap (λ (n : ℕ). 126 + n / 16) (sym pair) ∙ w in
      let eb : (pair_place 126 low high kind).bit ≡ b = ap (λ (n : ℕ). 4 * (n % 16) + kind) (sym pair) ∙ e in
      λ j. record { word = ew j; bit = eb j }

  word_is : (kind : ℕ) → pair_place 126 low high kind ≡ record { word = i; bit = b } → (126 + p / 16 ≡ i) × (4 * (p % 16) + kind ≡ b)
  word_is kind e = (
    ap (λ (n : ℕ). 126 + n / 16) pair ∙ ap (λ (q : BitPlace). q.word) e,
    ap (λ (n : ℕ). 4 * (n % 16) + kind) pair ∙ ap (λ (q : BitPlace). q.bit) e,
  )

  pub forward_at : 126 + p / 16 ≡ i → 4 * (p % 16) + 0 ≡ b → place_of (Before low high) ≡ record { word = i; bit = b }
  forward_at w e = upward low high rises ∙ placed 0 w e

  pub backward_at : 126 + p / 16 ≡ i → 4 * (p % 16) + 1 ≡ b → place_of (Before high low) ≡ record { word = i; bit = b }
  backward_at w e = downward low high rises ∙ placed 1 w e

  pub exclusive_at : 126 + p / 16 ≡ i → 4 * (p % 16) + 2 ≡ b → place_of (Exclusive low high) ≡ record { word = i; bit = b }
  exclusive_at w e = placed 2 w e

  pub apart_at : 126 + p / 16 ≡ i → 4 * (p % 16) + 3 ≡ b → place_of (Apart low high) ≡ record { word = i; bit = b }
  apart_at w e = placed 3 w e

  pub at_forward : place_of (Before low high) ≡ record { word = i; bit = b } → (126 + p / 16 ≡ i) × (4 * (p % 16) + 0 ≡ b)
  at_forward e = word_is 0 (sym (upward low high rises) ∙ e)

  pub at_backward : place_of (Before high low) ≡ record { word = i; bit = b } → (126 + p / 16 ≡ i) × (4 * (p % 16) + 1 ≡ b)
  at_backward e = word_is 1 (sym (downward low high rises) ∙ e)

  pub at_exclusive : place_of (Exclusive low high) ≡ record { word = i; bit = b } → (126 + p / 16 ≡ i) × (4 * (p % 16) + 2 ≡ b)
  at_exclusive e = word_is 2 e

  pub at_apart : place_of (Apart low high) ≡ record { word = i; bit = b } → (126 + p / 16 ≡ i) × (4 * (p % 16) + 3 ≡ b)
  at_apart e = word_is 3 e
