-- The state at opening is sound.
use Rattle.std.proofs.Common.{◌≡◌, ℕ, ◌+◌, ◌^◌, lit<, sym, ◌<◌, [], ◌∷◌, length, refl, ap, ◌∙◌, subst, inl, arith}
use Rattle.std.proofs.lemmas.Bool.{false≢true}
use Rattle.std.proofs.lemmas.List.{length-replicate, get_or-replicate}
use Rattle.std.proofs.lemmas.Nat.Bits.{bit_at_ones}
use Rattle.std.specs.Int.{bit_at}
use Rattle.word_rows.specs.Words.{AreWords, bit_of, full_words}
use Rattle.word_rows.specs.Changes.{first_view}
use Rattle.word_rows.specs.Sound.{IsSound, IsBelow}
use Rattle.word_rows.proofs.ViewLemmas.{each_one}

pub full_bit : (width i b : ℕ) → i < width → b < 64 → bit_of (full_words width) i b ≡ 1
full_bit width i b h l = ap (λ (n : ℕ). bit_at n b) (get_or-replicate width i 18446744073709551615 0 h) ∙ bit_at_ones 64 b l

pub full_length : (width : ℕ) → length (full_words width) ≡ width
full_length width = length-replicate width 18446744073709551615

-- a full word has 64 bits
pub full_bound : (width : ℕ) → AreWords (full_words width)
full_bound width i h = subst (λ (n : ℕ). n < 2 ^ 64) (sym (get_or-replicate width i 18446744073709551615 0 (subst (λ (n : ℕ). i < n) (full_length width) h))) (lit< tt)

pub one_not_zero : (n : ℕ) → n ≡ 1 → n ≡ 0 → ⊥
one_not_zero n e z = omega arith

pub opening_sound : (width all : ℕ) → IsSound (full_words width) all (first_view all ∷ [])
opening_sound width all = record {
  accounted = λ i b h l z. absurd (one_not_zero _ (full_bit width i b (subst (λ (n : ℕ). i < n) (full_length width) h) l) z);
  cleared = each_one _ (first_view all) (λ i b h l t. absurd (false≢true t));
  shared_out = zero_plus all;
  idle = each_one _ (first_view all) (λ _. (refl, refl));
  kept = each_one _ (first_view all) (λ i b h l t. absurd (false≢true t));
  found = each_one _ (first_view all) (λ i b h l t. absurd (false≢true t));
  seen = each_one _ (first_view all) (λ i b h l t. absurd (false≢true t));
  progress = each_one _ (first_view all) (inl refl);
  named = each_one (IsBelow (length (full_words width))) (first_view all) (record { done = refl; row = refl; seen = refl; readings = refl });
}
  where
    zero_plus : (n : ℕ) → 0 + n ≡ n
    zero_plus n = omega arith
