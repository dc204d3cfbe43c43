-- No two texts are escaped alike.
use Rattle.std.proofs.Common.{◌≡◌, ℕ, ◌+◌, ◌/◌, ◌%◌, ◌<◌, ◌≤◌, ◌⊎◌, inl, inr, List, [], ◌∷◌, ◌++◌, Bool, true, false, cond, ltb, refl, sym, ap, ◌∙◌, true≢false, arith}
use Rattle.std.proofs.lemmas.Bool.{cases_lt, le-ltb, lt-ltb}
use Rattle.span_names.specs.NameLaws.{EscapingIsOneToOne}
use Rattle.span_names.specs.Names.{escaped, escaped_byte, hex_digit, is_escaped}

small : (n : ℕ) → n < 10 → hex_digit n ≡ 48 + n
small n lt = let t : ltb n 10 ≡ true = lt-ltb n 10 lt in rw t refl

large : (n : ℕ) → 10 ≤ n → hex_digit n ≡ 55 + n
large n ge = let t : ltb n 10 ≡ false = le-ltb n 10 ge in rw t refl

digit_once : (m n : ℕ) → hex_digit m ≡ hex_digit n → m ≡ n
digit_once m n h = by (cases_lt m 10) (cases_lt n 10)
  where
    by : (m < 10) ⊎ (10 ≤ m) → (n < 10) ⊎ (10 ≤ n) → m ≡ n
    by (inl p) (inl q) = omega (arith, small m p, small n q, h)
    by (inl p) (inr q) = absurd (omega (arith, small m p, large n q, h))
    by (inr p) (inl q) = absurd (omega (arith, large m p, small n q, h))
    by (inr p) (inr q) = omega (arith, large m p, large n q, h)

first_same : {x y : ℕ} {xs ys : List ℕ} → x ∷ xs ≡ y ∷ ys → x ≡ y
first_same h = cc

rest_same : {x y : ℕ} {xs ys : List ℕ} → x ∷ xs ≡ y ∷ ys → xs ≡ ys
rest_same h = cc

none_some : {x : ℕ} {xs : List ℕ} → [] ≡ x ∷ xs → ⊥
none_some h = cc

whole : (b c : ℕ) → b / 16 ≡ c / 16 → b % 16 ≡ c % 16 → b ≡ c
whole b c p q = omega (arith, p, q)

byte_once : (b c : ℕ) (r t : List ℕ) → escaped_byte b ++ r ≡ escaped_byte c ++ t → (b ≡ c) × (r ≡ t)
byte_once b c r t h = by (is_escaped b) (is_escaped c) refl refl h
  where
    Form : ℕ → Bool → List ℕ
    Form n x = cond x (37 ∷ hex_digit (n / 16) ∷ hex_digit (n % 16) ∷ []) (n ∷ [])

    by : (x y : Bool) → is_escaped b ≡ x → is_escaped c ≡ y → Form b x ++ r ≡ Form c y ++ t → (b ≡ c) × (r ≡ t)
    by true true e f g =
        let one = rest_same g in
        (whole b c (digit_once (b / 16) (c / 16) (first_same one)) (digit_once (b % 16) (c % 16) (first_same (rest_same one))), rest_same (rest_same one))
    by true false e f g = absurd (true≢false (ap is_escaped (first_same g) ∙ f))
    by false true e f g = absurd (true≢false (sym (sym e ∙ ap is_escaped (first_same g))))
    by false false e f g = (first_same g, rest_same g)

some_byte : (b : ℕ) (r : List ℕ) → [] ≡ escaped_byte b ++ r → ⊥
some_byte b r h = by (is_escaped b) h
  where
    by : (x : Bool) → [] ≡ cond x (37 ∷ hex_digit (b / 16) ∷ hex_digit (b % 16) ∷ []) (b ∷ []) ++ r → ⊥
    by true g = none_some g
    by false g = none_some g

pub escaped_once : EscapingIsOneToOne
escaped_once [] [] h = refl
escaped_once [] (c ∷ cs) h = absurd (some_byte c (escaped cs) h)
escaped_once (b ∷ bs) [] h = absurd (some_byte b (escaped bs) (sym h))
escaped_once (b ∷ bs) (c ∷ cs) h =
    let one = byte_once b c (escaped bs) (escaped cs) h in
    ap (λ x. x ∷ bs) one.0 ∙ ap (λ (xs : List ℕ). c ∷ xs) (escaped_once bs cs one.1)
