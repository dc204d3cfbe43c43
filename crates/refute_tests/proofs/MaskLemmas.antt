-- The four bits of a pair of names, as one mask.
use Rattle.std.proofs.Common.{◌≡◌, ℕ, zero, suc, ◌+◌, ◌-◌, ◌*◌, ◌/◌, ◌%◌, ◌^◌, ◌<◌, ◌≤◌, Bool, true, false, ◌&&◌, ◌||◌, ◌==◌, nat_lt, bit_or, List, refl, sym, ap, ◌∙◌, ⊎_elim, arith}
use Rattle.std.proofs.Math.Nat.{mod-eq_of_lt, mul-le-mul_left}
use Rattle.std.proofs.Math.Pow.{pow_mono}
use Rattle.std.proofs.lemmas.Bool.{cases_eq, cases_lt, cond-true, cond-false, eq-eqb, ne_eqb, lt-ltb, le-ltb}
use Rattle.std.proofs.lemmas.Nat.{pow_pos}
use Rattle.std.proofs.lemmas.Nat.Bits.{bit_at_above, bit_at_cat_low, bit_at_cat_high, bit_at-zero}
use Rattle.std.specs.Int.{bit_at}
use Rattle.hypothesis_index.specs.Places.{place_of, pair_place, pair_number, pairs_below}
use Rattle.hypothesis_index.specs.declared.bit_place.BitPlace.{BitPlace}
use Rattle.hypothesis_index.specs.declared.relation.Relation.TheVariants.{Before}
use Rattle.word_rows.proofs.MakerLemmas.{either_bit}
use Rattle.hypothesis_index.proofs.PairLemmas.{pairs_below-512}
use Rattle.refute_tests.specs.Clearing.{starts_early, is_at}
use Rattle.refute_tests.proofs.StepLemmas.{PairsFollow}
use Rattle.refute_tests.specs.inner.Hits.{clears_with, hits, kinds_of, word_of}
use Rattle.trace_types.specs.declared.named_segment.NamedSegment.{NamedSegment}
use Rattle.word_rows.specs.Rows.{clears}
use Rattle.word_rows.specs.declared.entries.Entry.{Entry}

kinds_small : (f g : Bool) → kinds_of f g < 16
kinds_small true true = omega arith
kinds_small true false = omega arith
kinds_small false true = omega arith
kinds_small false false = omega arith

-- the bits of these kinds, where the first kind has the bit q
abbrev four : Bool → Bool → ℕ → ℕ → Bool
four f g q b = (((f && (q + 0 == b)) || (g && (q + 1 == b))) || ((f && g) && (q + 2 == b))) || (q + 3 == b)

nothing : (f g : Bool) → ((((f && false) || (g && false)) || ((f && g) && false)) || false) ≡ false
nothing true true = refl
nothing true false = refl
nothing false true = refl
nothing false false = refl

-- none of the four bits is this one
apart : (f g : Bool) (q b : ℕ) → ((k : ℕ) → k < 4 → q + k ≡ b → ⊥) → four f g q b ≡ false
apart f g q b n =
    let p0 = ne_eqb (q + 0) b (n 0 (omega arith)) in let p1 = ne_eqb (q + 1) b (n 1 (omega arith)) in
    let p2 = ne_eqb (q + 2) b (n 2 (omega arith)) in let p3 = ne_eqb (q + 3) b (n 3 (omega arith)) in
    (λ j. (((f && p0 j) || (g && p1 j)) || ((f && g) && p2 j)) || p3 j) ∙ nothing f g

shift : (q k l : ℕ) → (q + k == q + l) ≡ (k == l)
shift q k l = ⊎_elim
    (λ (e : k ≡ l). eq-eqb (q + k) (q + l) (ap (λ (n : ℕ). q + n) e) ∙ sym (eq-eqb k l e))
    (λ (e : k ≡ l → ⊥). ne_eqb (q + k) (q + l) (λ h. e (omega arith)) ∙ sym (ne_eqb k l e))
    (cases_eq k l)

-- the four kinds from bit 0
abbrev at_zero : Bool → Bool → ℕ → Bool
at_zero f g k = (((f && (0 == k)) || (g && (1 == k))) || ((f && g) && (2 == k))) || (3 == k)

kind_bit : (f g : Bool) (k : ℕ) → (bit_at (kinds_of f g) k == 1) ≡ at_zero f g k
kind_bit true true zero = refl
kind_bit true false zero = refl
kind_bit false true zero = refl
kind_bit false false zero = refl
kind_bit true true (suc zero) = refl
kind_bit true false (suc zero) = refl
kind_bit false true (suc zero) = refl
kind_bit false false (suc zero) = refl
kind_bit true true (suc (suc zero)) = refl
kind_bit true false (suc (suc zero)) = refl
kind_bit false true (suc (suc zero)) = refl
kind_bit false false (suc (suc zero)) = refl
kind_bit true true (suc (suc (suc zero))) = refl
kind_bit true false (suc (suc (suc zero))) = refl
kind_bit false true (suc (suc (suc zero))) = refl
kind_bit false false (suc (suc (suc zero))) = refl
kind_bit f g (suc (suc (suc (suc k)))) = let n : ℕ = suc (suc (suc (suc k))) in
    ne_eqb (bit_at (kinds_of f g) n) 1 (λ h. let z = bit_at_above (kinds_of f g) 4 n (kinds_small f g) (omega arith) in omega arith)
    ∙ sym (
    let p0 = ne_eqb 0 n (λ h. omega arith) in let p1 = ne_eqb 1 n (λ h. omega arith) in let p2 = ne_eqb 2 n (λ h. omega arith) in let p3 = ne_eqb 3 n (λ h. omega arith) in
    (λ j. (((f && p0 j) || (g && p1 j)) || ((f && g) && p2 j)) || p3 j) ∙ nothing f g)

in_word : (k x : ℕ) → k < 16 → x ≤ 2 ^ 60 → k * x < 2 ^ 64
in_word k x h l = let m : k ≤ 15 = omega arith in omega (arith, mul-le-mul_left x m)

-- the kinds stand from bit q on
four_bits : (f g : Bool) (q b : ℕ) → q ≤ 60 → (bit_at (kinds_of f g * 2 ^ q % 2 ^ 64) b == 1) ≡ four f g q b
four_bits f g q b room =
    let whole : kinds_of f g * 2 ^ q % 2 ^ 64 ≡ kinds_of f g * 2 ^ q + 0 = mod-eq_of_lt (in_word (kinds_of f g) (2 ^ q) (kinds_small f g) (pow_mono room)) ∙ omega arith in
    ap (λ (n : ℕ). bit_at n b == 1) whole ∙ ⊎_elim
    (λ (low : b < q). ap (λ (n : ℕ). n == 1) (bit_at_cat_low (kinds_of f g) q 0 b low ∙ bit_at-zero b) ∙ sym (apart f g q b (λ k l h. omega arith)))
    (λ (high : q ≤ b). let at : b ≡ q + (b - q) = omega arith in let k : ℕ = b - q in
    ap (λ (n : ℕ). n == 1) (bit_at_cat_high (kinds_of f g) q 0 b (pow_pos q) high) ∙ kind_bit f g k
    ∙ sym (ap (four f g q) at ∙ (λ j. (((f && shift q 0 k j) || (g && shift q 1 k j)) || ((f && g) && shift q 2 k j)) || shift q 3 k j)))
    (cases_lt b q)

both : (w f g a b c d : Bool) → (w && ((((f && a) || (g && b)) || ((f && g) && c)) || d)) ≡ ((((f && (w && a)) || (g && (w && b))) || ((f && g) && (w && c))) || (w && d))
both true f g a b c d = refl
both false f g a b c d = sym (nothing f g)

-- ---- the places of a pair of names
module _ (low high : ℕ) (rises : low < high) where
  abbrev first_bit : ℕ
  first_bit = 4 * (pair_number low high % 16)

  pub upward : place_of (Before low high) ≡ pair_place 126 low high 0
  upward = cond-true (nat_lt low high) (pair_place 126 low high 0) (pair_place 126 high low 1) (lt-ltb low high rises)

  pub downward : place_of (Before high low) ≡ pair_place 126 low high 1
  downward = cond-false (nat_lt high low) (pair_place 126 high low 0) (pair_place 126 low high 1) (le-ltb high low (omega arith))

  mask_bits : (f g : Bool) (i b : ℕ) → ((word_of low high == i) && (bit_at (kinds_of f g * 2 ^ (first_bit + 0) % 2 ^ 64) b == 1))
      ≡ ((((f && is_at (Before low high) i b) || (g && is_at (Before high low) i b)) || ((f && g) && ((word_of low high == i) && (first_bit + 2 == b)))) || ((word_of low high == i) && (first_bit + 3 == b)))
  mask_bits f g i b =
      let w : Bool = word_of low high == i in
      let plain : first_bit + 0 ≡ first_bit = omega arith in
      let room : first_bit ≤ 60 = omega arith in
      ap (λ (q : ℕ). w && (bit_at (kinds_of f g * 2 ^ q % 2 ^ 64) b == 1)) plain
      ∙ ap (λ (y : Bool). w && y) (four_bits f g first_bit b room)
      ∙ both w f g (first_bit + 0 == b) (first_bit + 1 == b) (first_bit + 2 == b) (first_bit + 3 == b)
      ∙ (λ j. (((f && at (sym upward j)) || (g && at (sym downward j))) || ((f && g) && (w && (first_bit + 2 == b)))) || (w && (first_bit + 3 == b)))
    where
      at : BitPlace → Bool
      at p = (p.word == i) && (p.bit == b)

-- the mask of a pair, at its slot, has the bits that the pair refutes
pub pair_mask : (grace : ℕ) (s t : NamedSegment) → s.name < t.name → (slot : ℕ) → slot ≡ 2016 + pairs_below t.name + s.name → (i b : ℕ)
    → ((slot / 16 == i) && (bit_at (kinds_of (starts_early grace t s) (starts_early grace s t) * 2 ^ (4 * (slot % 16)) % 2 ^ 64) b == 1)) ≡ hits grace s t i b
pair_mask grace s t rises slot is i b =
    let word : slot / 16 ≡ word_of s.name t.name = omega arith in
    let bit : 4 * (slot % 16) ≡ 4 * (pair_number s.name t.name % 16) + 0 = omega arith in
    (λ j. (word j == i) && (bit_at (kinds_of (starts_early grace t s) (starts_early grace s t) * 2 ^ bit j % 2 ^ 64) b == 1))
    ∙ mask_bits s.name t.name rises (starts_early grace t s) (starts_early grace s t) i b

-- ---- the place of a pair that gives the slots of its row
pub slot_of : (low high : ℕ) → low < high → (place : BitPlace) → place ≡ place_of (Before low high) → 16 * place.word + place.bit / 4 ≡ 2016 + pairs_below high + low
slot_of low high rises place is =
    let at : place ≡ pair_place 126 low high 0 = is ∙ upward low high rises in
    let word : place.word ≡ word_of low high = ap (λ (p : BitPlace). p.word) at in
    let bit : place.bit ≡ 4 * (pair_number low high % 16) + 0 = ap (λ (p : BitPlace). p.bit) at in
    omega arith

pub slots_end : PairsFollow → (high : ℕ) → high < 512 → pairs_below high + high ≤ 130816
slots_end follow high small = let most = follow high 512 small in omega (arith, pairs_below-512)

-- ---- masks of one word
spread : (c w p q : Bool) → (c || (w && (p || q))) ≡ ((c || (w && p)) || (w && q))
spread true w p q = refl
spread false true p q = refl
spread false false p q = refl

-- a mask with more bits clears those too
pub more_bits : (row : List Entry) (word mask more i b : ℕ) → clears_with row word (bit_or mask more) i b ≡ (clears_with row word mask i b || ((word == i) && (bit_at more b == 1)))
more_bits row word mask more i b = ap (λ (y : Bool). clears row i b || ((word == i) && y)) (either_bit mask more b) ∙ spread (clears row i b) (word == i) (bit_at mask b == 1) (bit_at more b == 1)
