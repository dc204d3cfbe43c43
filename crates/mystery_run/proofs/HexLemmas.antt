-- The hexadecimal digits of a word, one after another.
use Rattle.std.proofs.Common.{◌≡◌, ℕ, zero, suc, ◌+◌, ◌-◌, ◌*◌, ◌/◌, ◌%◌, ◌^◌, List, [], ◌∷◌, ◌++◌, map, refl, sym, ap, ◌∙◌, arith}
use Rattle.std.specs.List.{range_with_len}
use Rattle.std.specs.Char.{digit_char}
use Rattle.std.proofs.lemmas.List.{map-append}
use Rattle.mystery_run.specs.ReplayTexts.{hex_word}

-- the first digits of a word, so many
unfoldable pub first_digits : ℕ → ℕ → List ℕ
first_digits n count = map (λ place. digit_char (n / 2 ^ (60 - 4 * place) % 16)) (range_with_len 0 count)

range_more : (a k : ℕ) → range_with_len a (k + 1) ≡ range_with_len a k ++ (a + k) ∷ []
range_more a zero = let e : a + 0 ≡ a = omega arith in rw e refl
range_more a (suc k) =
    let e : suc k + 1 ≡ suc (k + 1) = omega arith in
    let f : a + suc k ≡ a + 1 + k = omega arith in
    rw (e, f) (ap (λ (ns : List ℕ). a ∷ ns) (range_more (a + 1) k))

pub no_digits : (n : ℕ) → [] ≡ first_digits n 0
unfolding first_digits
no_digits n = refl

-- a digit more
pub digit_more : (n place digit : ℕ) (mid new : List ℕ) → mid ≡ first_digits n place → digit ≡ digit_char (n / 2 ^ (60 - 4 * place) % 16) → new ≡ mid ++ digit ∷ [] → new ≡ first_digits n (place + 1)
unfolding first_digits
digit_more n place digit mid new e f g =
    let d : ℕ → ℕ = λ place. digit_char (n / 2 ^ (60 - 4 * place) % 16) in
    let z : 0 + place ≡ place = omega arith in
    let more : map d (range_with_len 0 (place + 1)) ≡ map d (range_with_len 0 place) ++ d place ∷ [] =
    ap (map d) (range_more 0 place) ∙ map-append d (range_with_len 0 place) ((0 + place) ∷ []) ∙ ap (λ p. map d (range_with_len 0 place) ++ d p ∷ []) z in
    g ∙ ap (λ (t : List ℕ). t ++ digit ∷ []) e ∙ ap (λ x. map d (range_with_len 0 place) ++ x ∷ []) f ∙ sym more

-- all 16 are the word
pub all_digits : (n : ℕ) → first_digits n 16 ≡ hex_word n
unfolding first_digits hex_word
all_digits n = refl
