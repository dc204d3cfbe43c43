-- The escape, sign by sign.
use Rattle.std.proofs.Common.{◌≡◌, ℕ, ◌<◌, ◌≤◌, ◌+◌, ◌-◌, ◌*◌, ◌/◌, ◌%◌, ◌==◌, ◌&&◌, ◌||◌, ◌⊎◌, inl, inr, List, [], ◌∷◌, ◌++◌, map, All, Bool, true, false, cond, ltb, eqb, length, drop, codes, Result, Ok, Err, OnOk, refl, sym, ap, subst, ◌∙◌, arith}
use Rattle.std.specs.Prelude.{if◌then◌else◌, nat_lt, not, slice_index, chars, encode_utf8_all}
use Rattle.std.specs.List.{flat_map}
use Rattle.std.specs.Result.{is_ok}
use Rattle.std.specs.Str.{IsUtf8}
use Rattle.std.specs.Char.{encode_utf8}
use Rattle.std.proofs.lemmas.Bool.{cases_lt, eqb-true, le-ltb, lt-ltb, ne_eqb}
use Rattle.std.proofs.lemmas.List.{append-nil, length-append}
use Rattle.std.proofs.lemmas.List.Concat.{flat_map-append}
use Rattle.std.proofs.lemmas.List.Elements.{All-append, All-cons, All-head, All-nil, All-tail}
use Rattle.std.proofs.lemmas.Str.{encode_ascii, encodes-append, encodes-chars, encodes_same}
use Rattle.markup.specs.Escapes.{EscapeHasNoMarkup, EscapeHasReferences, EscapeIsInjective, are_references, begins_reference, bracketed, escaped, escaped_sign, four_digits, hex_digit, is_hidden, is_markup}

-- what holds of the five signs, of a hidden one and of every other one holds of each sign
by_sign : (P : ℕ → List ℕ → Type 0) → P 34 (codes "&#34;") → P 38 (codes "&#38;") → P 39 (codes "&#39;") → P 60 (codes "&#60;") → P 62 (codes "&#62;")
    → ((x : ℕ) → is_hidden x ≡ true → P x (bracketed x))
    → ((x : ℕ) → (x == 34) ≡ false → (x == 38) ≡ false → (x == 39) ≡ false → (x == 60) ≡ false → (x == 62) ≡ false → is_hidden x ≡ false → P x (x ∷ [])) → (x : ℕ) → P x (escaped_sign x)
by_sign P p34 p38 p39 p60 p62 hidden plain x = by34 (x == 34) refl
  where
    by_hidden : (b : Bool) → is_hidden x ≡ b → (x == 34) ≡ false → (x == 38) ≡ false → (x == 39) ≡ false → (x == 60) ≡ false → (x == 62) ≡ false → P x (if b then bracketed x else x ∷ [])
    by_hidden true e a1 a2 a3 a4 a5 = hidden x e
    by_hidden false e a1 a2 a3 a4 a5 = plain x a1 a2 a3 a4 a5 e

    by62 : (b : Bool) → (x == 62) ≡ b → (x == 34) ≡ false → (x == 38) ≡ false → (x == 39) ≡ false → (x == 60) ≡ false → P x (if b then codes "&#62;" else if is_hidden x then bracketed x else x ∷ [])
    by62 true e a1 a2 a3 a4 = subst (λ y. P y (codes "&#62;")) (sym (eqb-true x 62 e)) p62
    by62 false e a1 a2 a3 a4 = by_hidden (is_hidden x) refl a1 a2 a3 a4 e

    by60 : (b : Bool) → (x == 60) ≡ b → (x == 34) ≡ false → (x == 38) ≡ false → (x == 39) ≡ false → P x (if b then codes "&#60;" else if x == 62 then codes "&#62;" else if is_hidden x then bracketed x else x ∷ [])
    by60 true e a1 a2 a3 = subst (λ y. P y (codes "&#60;")) (sym (eqb-true x 60 e)) p60
    by60 false e a1 a2 a3 = by62 (x == 62) refl a1 a2 a3 e

    by39 : (b : Bool) → (x == 39) ≡ b → (x == 34) ≡ false → (x == 38) ≡ false → P x (if b then codes "&#39;" else if x == 60 then codes "&#60;" else if x == 62 then codes "&#62;" else if is_hidden x then bracketed x else x ∷ [])
    by39 true e a1 a2 = subst (λ y. P y (codes "&#39;")) (sym (eqb-true x 39 e)) p39
    by39 false e a1 a2 = by60 (x == 60) refl a1 a2 e

    by38 : (b : Bool) → (x == 38) ≡ b → (x == 34) ≡ false → P x (if b then codes "&#38;" else if x == 39 then codes "&#39;" else if x == 60 then codes "&#60;" else if x == 62 then codes "&#62;" else if is_hidden x then bracketed x else x ∷ [])
    by38 true e a1 = subst (λ y. P y (codes "&#38;")) (sym (eqb-true x 38 e)) p38
    by38 false e a1 = by39 (x == 39) refl a1 e

    by34 : (b : Bool) → (x == 34) ≡ b → P x (if b then codes "&#34;" else if x == 38 then codes "&#38;" else if x == 39 then codes "&#39;" else if x == 60 then codes "&#60;" else if x == 62 then codes "&#62;" else if is_hidden x then bracketed x else x ∷ [])
    by34 true e = subst (λ y. P y (codes "&#34;")) (sym (eqb-true x 34 e)) p34
    by34 false e = by38 (x == 38) refl e

-- ---- bytes of signs

-- what holds of a short sign and of each byte from 128 on holds of the bytes of a sign
encode_keeps : (P : ℕ → Type 0) → ((b : ℕ) → 128 ≤ b → P b) → (x : ℕ) → P x → All P (encode_utf8 x)
unfolding encode_utf8
encode_keeps P high x p = by (cases_lt x 128)
  where
    Long : Bool → Bool → List ℕ
    Long y z = cond y ((192 + x / 64) ∷ (128 + x % 64) ∷ []) (cond z ((224 + x / 4096) ∷ (128 + (x / 64) % 64) ∷ (128 + x % 64) ∷ []) ((240 + x / 262144) ∷ (128 + (x / 4096) % 64) ∷ (128 + (x / 64) % 64) ∷ (128 + x % 64) ∷ []))

    some : (b : ℕ) (bs : List ℕ) → 128 ≤ b → All P bs → All P (b ∷ bs)
    some b bs h rest = All-cons P b bs (high b h) rest

    none : All P []
    none = All-nil P

    two : (a b : ℕ) → 128 ≤ a → 128 ≤ b → All P (a ∷ b ∷ [])
    two a b p q = some a (b ∷ []) p (some b [] q none)

    long : (y z : Bool) → All P (Long y z)
    long true z = two (192 + x / 64) (128 + x % 64) (omega arith) (omega arith)
    long false true = some (224 + x / 4096) ((128 + (x / 64) % 64) ∷ (128 + x % 64) ∷ []) (omega arith) (two (128 + (x / 64) % 64) (128 + x % 64) (omega arith) (omega arith))
    long false false =
        some (240 + x / 262144) ((128 + (x / 4096) % 64) ∷ (128 + (x / 64) % 64) ∷ (128 + x % 64) ∷ []) (omega arith)
        (some (128 + (x / 4096) % 64) ((128 + (x / 64) % 64) ∷ (128 + x % 64) ∷ []) (omega arith) (two (128 + (x / 64) % 64) (128 + x % 64) (omega arith) (omega arith)))

    by : (x < 128) ⊎ (128 ≤ x) → All P (encode_utf8 x)
    by (inl lt) = subst (λ (bs : List ℕ). All P bs) (sym (encode_ascii x lt)) (All-cons P x [] p none)
    by (inr ge) = let t : ltb x 128 ≡ false = le-ltb x 128 ge in rw t (long (ltb x 2048) (ltb x 65536))

encodes_keep : (P : ℕ → Type 0) → ((b : ℕ) → 128 ≤ b → P b) → (xs : List ℕ) → All P xs → All P (encode_utf8_all xs)
encodes_keep P high [] h = All-nil P
encodes_keep P high (x ∷ xs) h = All-append P (encode_utf8 x) (encode_utf8_all xs) (encode_keeps P high x (All-head P x xs h)) (encodes_keep P high xs (All-tail P x xs h))

-- ---- digits

digit_cases : (P : ℕ → Type 0) → ((n : ℕ) → n < 10 → P (48 + n)) → ((n : ℕ) → 10 ≤ n → P (55 + n)) → (d : ℕ) → P (hex_digit d)
digit_cases P small great d = by (cases_lt d 10)
  where
    by : (d < 10) ⊎ (10 ≤ d) → P (hex_digit d)
    by (inl lt) = let t : nat_lt d 10 ≡ true = lt-ltb d 10 lt in subst (λ (b : Bool). P (if b then 48 + d else 55 + d)) (sym t) (small d lt)
    by (inr ge) = let t : nat_lt d 10 ≡ false = le-ltb d 10 ge in subst (λ (b : Bool). P (if b then 48 + d else 55 + d)) (sym t) (great d ge)

-- a digit that is none of some numbers
digit_differs : (d n : ℕ) → n < 48 ⊎ ((57 < n) × (n < 65)) → (hex_digit d == n) ≡ false
digit_differs d n (inl lt) = digit_cases (λ x. (x == n) ≡ false) (λ m h. ne_eqb (48 + m) n (λ e. omega (arith, e, lt))) (λ m h. ne_eqb (55 + m) n (λ e. omega (arith, e, lt, h))) d
digit_differs d n (inr both) = digit_cases (λ x. (x == n) ≡ false) (λ m h. ne_eqb (48 + m) n (λ e. omega (arith, e, both.0, h))) (λ m h. ne_eqb (55 + m) n (λ e. omega (arith, e, both.1, h))) d

-- ---- signs that are no markup

abbrev IsPlain : ℕ → Type 0
IsPlain x = (is_markup x ≡ false) × ((x == 38) ≡ false)

plain_high : (b : ℕ) → 128 ≤ b → IsPlain b
plain_high b h = (rw (differs 34 (omega arith), differs 39 (omega arith), differs 60 (omega arith), differs 62 (omega arith)) refl, differs 38 (omega arith))
  where
    differs : (n : ℕ) → n < 128 → (b == n) ≡ false
    differs n lt = ne_eqb b n (λ e. omega (arith, e, h, lt))

plain_digit : (d : ℕ) → IsPlain (hex_digit d)
plain_digit d = (rw (digit_differs d 34 (inl (omega arith)), digit_differs d 39 (inl (omega arith)), digit_differs d 60 (inr (omega arith, omega arith)), digit_differs d 62 (inr (omega arith, omega arith))) refl, digit_differs d 38 (inl (omega arith)))

plain_cons : (x : ℕ) (xs : List ℕ) → IsPlain x → All IsPlain xs → All IsPlain (x ∷ xs)
plain_cons x xs p h = All-cons IsPlain x xs p h

plain_end : All IsPlain (0x27E9 ∷ [])
plain_end = plain_cons 0x27E9 [] (refl, refl) (All-nil IsPlain)

plain_four : (x : ℕ) → All IsPlain (four_digits x ++ 0x27E9 ∷ [])
plain_four x =
    let last = plain_cons (hex_digit (x % 16)) (0x27E9 ∷ []) (plain_digit (x % 16)) plain_end in
    let third = plain_cons (hex_digit (x / 16 % 16)) (hex_digit (x % 16) ∷ 0x27E9 ∷ []) (plain_digit (x / 16 % 16)) last in
    let second = plain_cons (hex_digit (x / 256 % 16)) (hex_digit (x / 16 % 16) ∷ hex_digit (x % 16) ∷ 0x27E9 ∷ []) (plain_digit (x / 256 % 16)) third in
    plain_cons (hex_digit (x / 4096 % 16)) (hex_digit (x / 256 % 16) ∷ hex_digit (x / 16 % 16) ∷ hex_digit (x % 16) ∷ 0x27E9 ∷ []) (plain_digit (x / 4096 % 16)) second

-- what holds of both forms of a number in brackets holds of it
by_width : (x : ℕ) (P : List ℕ → Type 0) → (x < 65536 → P (0x27E8 ∷ four_digits x ++ 0x27E9 ∷ [])) → (65536 ≤ x → P (0x27E8 ∷ hex_digit (x / 65536) ∷ four_digits x ++ 0x27E9 ∷ [])) → P (bracketed x)
by_width x P short long = by (cases_lt x 65536)
  where
    by : (x < 65536) ⊎ (65536 ≤ x) → P (bracketed x)
    by (inl lt) = let t : nat_lt x 65536 ≡ true = lt-ltb x 65536 lt in
        subst (λ (b : Bool). P (if b then 0x27E8 ∷ four_digits x ++ 0x27E9 ∷ [] else 0x27E8 ∷ hex_digit (x / 65536) ∷ four_digits x ++ 0x27E9 ∷ [])) (sym t) (short lt)
    by (inr ge) = let t : nat_lt x 65536 ≡ false = le-ltb x 65536 ge in
        subst (λ (b : Bool). P (if b then 0x27E8 ∷ four_digits x ++ 0x27E9 ∷ [] else 0x27E8 ∷ hex_digit (x / 65536) ∷ four_digits x ++ 0x27E9 ∷ [])) (sym t) (long ge)

plain_bracketed : (x : ℕ) → All IsPlain (bracketed x)
plain_bracketed x = by_width x (All IsPlain) (λ lt. plain_cons 0x27E8 (four_digits x ++ 0x27E9 ∷ []) (refl, refl) (plain_four x))
    (λ ge. plain_cons 0x27E8 (hex_digit (x / 65536) ∷ four_digits x ++ 0x27E9 ∷ []) (refl, refl) (plain_cons (hex_digit (x / 65536)) (four_digits x ++ 0x27E9 ∷ []) (plain_digit (x / 65536)) (plain_four x)))

-- ---- no markup

abbrev HasNone : List ℕ → Type 0
HasNone bytes = All (λ byte. is_markup byte ≡ false) bytes

cons : (x : ℕ) (xs : List ℕ) → is_markup x ≡ false → HasNone xs → HasNone (x ∷ xs)
cons x xs e h = All-cons (λ byte. is_markup byte ≡ false) x xs e h

nil : HasNone []
nil = All-nil (λ byte. is_markup byte ≡ false)

plain_has_none : (xs : List ℕ) → All IsPlain xs → HasNone xs
plain_has_none [] h = nil
plain_has_none (x ∷ xs) h = cons x xs (All-head IsPlain x xs h).0 (plain_has_none xs (All-tail IsPlain x xs h))

reference : (d e : ℕ) → is_markup d ≡ false → is_markup e ≡ false → HasNone (38 ∷ 35 ∷ d ∷ e ∷ 59 ∷ [])
reference d e p q =
    cons 38 (35 ∷ d ∷ e ∷ 59 ∷ []) refl (cons 35 (d ∷ e ∷ 59 ∷ []) refl (cons d (e ∷ 59 ∷ []) p (cons e (59 ∷ []) q (cons 59 [] refl nil))))

sign_has_none : (x : ℕ) → HasNone (escaped_sign x)
sign_has_none = by_sign (λ x signs. HasNone signs) (reference 51 52 refl refl) (reference 51 56 refl refl) (reference 51 57 refl refl) (reference 54 48 refl refl) (reference 54 50 refl refl)
    (λ x h. plain_has_none (bracketed x) (plain_bracketed x)) (λ x a1 a2 a3 a4 a5 h. cons x [] (rw (a1, a3, a4, a5) refl) nil)

all_have_none : (signs : List ℕ) → HasNone (flat_map escaped_sign signs)
all_have_none [] = nil
all_have_none (x ∷ signs) = All-append (λ byte. is_markup byte ≡ false) (escaped_sign x) (flat_map escaped_sign signs) (sign_has_none x) (all_have_none signs)

pub has_no_markup : EscapeHasNoMarkup
unfolding escaped
has_no_markup name = encodes_keep (λ byte. is_markup byte ≡ false) (λ b h. (plain_high b h).0) (flat_map escaped_sign (chars name)) (all_have_none (chars name))

-- ---- references

-- a reference in UTF-8
pub short_text : (d e : ℕ) → d < 128 → e < 128 → encode_utf8_all (38 ∷ 35 ∷ d ∷ e ∷ 59 ∷ []) ≡ 38 ∷ 35 ∷ d ∷ e ∷ 59 ∷ []
short_text d e p q = rw (encode_ascii 38 (omega arith), encode_ascii 35 (omega arith), encode_ascii d p, encode_ascii e q, encode_ascii 59 (omega arith)) refl

-- a text that was appended, in either of two forms
pub text_sent : {T E : Type 0} (r : Result T E) (new old xs ys : List ℕ) → xs ≡ ys → new ≡ (if is_ok r then old ++ ys else old) → OnOk r (new ≡ old ++ xs)
text_sent (Ok v) new old xs ys same e = e ∙ ap (λ (zs : List ℕ). old ++ zs) (sym same)
text_sent (Err x) new old xs ys same e = tt

plain_keeps : (xs rest : List ℕ) → All (λ x. (x == 38) ≡ false) xs → are_references rest ≡ true → are_references (xs ++ rest) ≡ true
plain_keeps [] rest h r = r
plain_keeps (x ∷ xs) rest h r =
    ap (λ b. (not b || begins_reference (xs ++ rest)) && are_references (xs ++ rest)) (All-head (λ x. (x == 38) ≡ false) x xs h) ∙ plain_keeps xs rest (All-tail (λ x. (x == 38) ≡ false) x xs h) r

none_begins : (xs : List ℕ) → All IsPlain xs → All (λ x. (x == 38) ≡ false) xs
none_begins [] h = All-nil (λ x. (x == 38) ≡ false)
none_begins (x ∷ xs) h = All-cons (λ x. (x == 38) ≡ false) x xs (All-head IsPlain x xs h).1 (none_begins xs (All-tail IsPlain x xs h))

abbrev KeepsReferences : List ℕ → Type 0
KeepsReferences signs = (rest : List ℕ) → are_references rest ≡ true → are_references (encode_utf8_all signs ++ rest) ≡ true

reference_keeps : (d e : ℕ) → d < 128 → e < 128 → ((rest : List ℕ) → are_references rest ≡ true → are_references (38 ∷ 35 ∷ d ∷ e ∷ 59 ∷ rest) ≡ true) → KeepsReferences (38 ∷ 35 ∷ d ∷ e ∷ 59 ∷ [])
reference_keeps d e p q h rest r = subst (λ (bytes : List ℕ). are_references (bytes ++ rest) ≡ true) (sym (short_text d e p q)) (h rest r)

others_keep : (signs : List ℕ) → All (λ x. (x == 38) ≡ false) signs → KeepsReferences signs
others_keep signs h rest r = plain_keeps (encode_utf8_all signs) rest (encodes_keep (λ x. (x == 38) ≡ false) (λ b g. (plain_high b g).1) signs h) r

sign_has_references : (x : ℕ) → KeepsReferences (escaped_sign x)
sign_has_references = by_sign (λ x signs. KeepsReferences signs) (reference_keeps 51 52 (omega arith) (omega arith) (λ rest h. h)) (reference_keeps 51 56 (omega arith) (omega arith) (λ rest h. h)) (reference_keeps 51 57 (omega arith) (omega arith) (λ rest h. h))
    (reference_keeps 54 48 (omega arith) (omega arith) (λ rest h. h)) (reference_keeps 54 50 (omega arith) (omega arith) (λ rest h. h))
    (λ x h. others_keep (bracketed x) (none_begins (bracketed x) (plain_bracketed x))) (λ x a1 a2 a3 a4 a5 h. others_keep (x ∷ []) (All-cons (λ x. (x == 38) ≡ false) x [] a2 (All-nil (λ x. (x == 38) ≡ false))))

all_have_references : (signs : List ℕ) → are_references (encode_utf8_all (flat_map escaped_sign signs)) ≡ true
all_have_references [] = refl
all_have_references (x ∷ signs) =
    subst (λ (bytes : List ℕ). are_references bytes ≡ true) (sym (encodes-append (escaped_sign x) (flat_map escaped_sign signs))) (sign_has_references x (encode_utf8_all (flat_map escaped_sign signs)) (all_have_references signs))

pub has_references : EscapeHasReferences
unfolding escaped
has_references name = all_have_references (chars name)

-- ---- injective

-- the number that a digit stands for
abbrev value : ℕ → ℕ
value digit = if nat_lt digit 58 then digit - 48 else digit - 55

value_is : (d : ℕ) → value (hex_digit d) ≡ d
value_is d = by (cases_lt d 10)
  where
    by : (d < 10) ⊎ (10 ≤ d) → value (hex_digit d) ≡ d
    by (inl lt) = let t : nat_lt d 10 ≡ true = lt-ltb d 10 lt in
        let u : nat_lt (48 + d) 58 ≡ true = lt-ltb (48 + d) 58 (omega (arith, lt)) in
        ap (λ b. value (if b then 48 + d else 55 + d)) t ∙ ap (λ b. if b then 48 + d - 48 else 48 + d - 55) u ∙ omega arith
    by (inr ge) = let t : nat_lt d 10 ≡ false = le-ltb d 10 ge in
        let u : nat_lt (55 + d) 58 ≡ false = le-ltb (55 + d) 58 (omega (arith, ge)) in
        ap (λ b. value (if b then 48 + d else 55 + d)) t ∙ ap (λ b. if b then 55 + d - 48 else 55 + d - 55) u ∙ omega arith

-- the number that four digits stand for
abbrev of_four : (a b c d : ℕ) → ℕ
of_four a b c d = value a * 4096 + value b * 256 + value c * 16 + value d

of_four_is : (x : ℕ) → of_four (hex_digit (x / 4096 % 16)) (hex_digit (x / 256 % 16)) (hex_digit (x / 16 % 16)) (hex_digit (x % 16)) ≡ x % 65536
of_four_is x = rw (value_is (x / 4096 % 16), value_is (x / 256 % 16), value_is (x / 16 % 16), value_is (x % 16)) (omega arith)

-- the sign that an escaped text stands for first
abbrev first_bracketed : List ℕ → ℕ
first_bracketed xs = if slice_index xs 5 == 0x27E9 then of_four (slice_index xs 1) (slice_index xs 2) (slice_index xs 3) (slice_index xs 4)
    else value (slice_index xs 1) * 65536 + of_four (slice_index xs 2) (slice_index xs 3) (slice_index xs 4) (slice_index xs 5)

abbrev first_sign : List ℕ → ℕ
first_sign xs = if slice_index xs 0 == 38 then (slice_index xs 2 - 48) * 10 + (slice_index xs 3 - 48)
    else if slice_index xs 0 == 0x27E8 then first_bracketed xs else slice_index xs 0

first_hidden : (x : ℕ) → (rest : List ℕ) → first_sign (bracketed x ++ rest) ≡ x
first_hidden x rest = by_width x (λ signs. first_sign (signs ++ rest) ≡ x) (λ lt. of_four_is x ∙ omega (arith, lt)) long
  where
    long : 65536 ≤ x → first_sign ((0x27E8 ∷ hex_digit (x / 65536) ∷ four_digits x ++ 0x27E9 ∷ []) ++ rest) ≡ x
    long ge =
        let last : (hex_digit (x % 16) == 0x27E9) ≡ false = digit_small (x % 16) (omega arith) in
        ap (λ b. if b then of_four (hex_digit (x / 65536)) (hex_digit (x / 4096 % 16)) (hex_digit (x / 256 % 16)) (hex_digit (x / 16 % 16))
        else value (hex_digit (x / 65536)) * 65536 + of_four (hex_digit (x / 4096 % 16)) (hex_digit (x / 256 % 16)) (hex_digit (x / 16 % 16)) (hex_digit (x % 16))) last
        ∙ rw (value_is (x / 65536), of_four_is x) (omega arith)
      where
        digit_small : (d : ℕ) → d < 16 → (hex_digit d == 0x27E9) ≡ false
        digit_small d lt = by (cases_lt d 10)
          where
            by : (d < 10) ⊎ (10 ≤ d) → (hex_digit d == 0x27E9) ≡ false
            by (inl small) = let t : nat_lt d 10 ≡ true = lt-ltb d 10 small in ap (λ b. (if b then 48 + d else 55 + d) == 0x27E9) t ∙ ne_eqb (48 + d) 0x27E9 (λ e. omega (arith, e, small))
            by (inr great) = let t : nat_lt d 10 ≡ false = le-ltb d 10 great in ap (λ b. (if b then 48 + d else 55 + d) == 0x27E9) t ∙ ne_eqb (55 + d) 0x27E9 (λ e. omega (arith, e, lt))

first_plain : (x : ℕ) (rest : List ℕ) → (x == 38) ≡ false → is_hidden x ≡ false → first_sign (x ∷ rest) ≡ x
first_plain x rest a h =
    ap (λ b. if b then (slice_index (x ∷ rest) 2 - 48) * 10 + (slice_index (x ∷ rest) 3 - 48) else if x == 0x27E8 then first_bracketed (x ∷ rest) else x) a
    ∙ ap (λ b. if b then first_bracketed (x ∷ rest) else x) (by (x == 0x27E8) refl)
  where
    by : (b : Bool) → (x == 0x27E8) ≡ b → (x == 0x27E8) ≡ false
    by false e = e
    by true e = let f : true ≡ false = sym (ap is_hidden (eqb-true x 0x27E8 e)) ∙ h in cc

first_is : (x : ℕ) → (rest : List ℕ) → first_sign (escaped_sign x ++ rest) ≡ x
first_is = by_sign (λ x signs. (rest : List ℕ) → first_sign (signs ++ rest) ≡ x) (λ rest. refl) (λ rest. refl) (λ rest. refl) (λ rest. refl) (λ rest. refl)
    (λ x h rest. first_hidden x rest) (λ x a1 a2 a3 a4 a5 h rest. first_plain x rest a2 h)

some_signs : (x : ℕ) → 0 < length (escaped_sign x)
some_signs = by_sign (λ x signs. 0 < length signs) (omega arith) (omega arith) (omega arith) (omega arith) (omega arith) (λ x h. by_width x (λ signs. 0 < length signs) (λ lt. omega arith) (λ ge. omega arith)) (λ x a1 a2 a3 a4 a5 h. omega arith)

no_first : (x : ℕ) (rest : List ℕ) → [] ≡ escaped_sign x ++ rest → ⊥
no_first x rest e = omega (arith, ap length e, length-append (escaped_sign x) rest, some_signs x)

rest_is : (xs ys zs : List ℕ) → xs ++ ys ≡ xs ++ zs → ys ≡ zs
rest_is [] ys zs e = e
rest_is (x ∷ xs) ys zs e = rest_is xs ys zs (ap (drop 1) e)

injective : (signs others : List ℕ) → flat_map escaped_sign signs ≡ flat_map escaped_sign others → signs ≡ others
injective [] [] e = refl
injective [] (y ∷ others) e = absurd (no_first y (flat_map escaped_sign others) e)
injective (x ∷ signs) [] e = absurd (no_first x (flat_map escaped_sign signs) (sym e))
injective (x ∷ signs) (y ∷ others) e =
    let same : x ≡ y = sym (first_is x (flat_map escaped_sign signs)) ∙ ap first_sign e ∙ first_is y (flat_map escaped_sign others) in
    let more : flat_map escaped_sign signs ≡ flat_map escaped_sign others =
    rest_is (escaped_sign x) (flat_map escaped_sign signs) (flat_map escaped_sign others) (e ∙ ap (λ z. escaped_sign z ++ flat_map escaped_sign others) (sym same)) in
    (λ i. same i ∷ injective signs others more i)

pub is_injective : EscapeIsInjective
unfolding escaped
is_injective name other utf8 also e =
    let same : chars name ≡ chars other = injective (chars name) (chars other) (encodes_same (flat_map escaped_sign (chars name)) (flat_map escaped_sign (chars other)) e) in
    sym (encodes-chars name utf8) ∙ ap encode_utf8_all same ∙ encodes-chars other also

-- ---- signs that are appended one by one

pub signs_append : (xs : List ℕ) (x : ℕ) → encode_utf8_all (flat_map escaped_sign (xs ++ x ∷ [])) ≡ encode_utf8_all (flat_map escaped_sign xs) ++ encode_utf8_all (escaped_sign x)
signs_append xs x = ap encode_utf8_all (flat_map-append escaped_sign xs (x ∷ []) ∙ ap (λ (ys : List ℕ). flat_map escaped_sign xs ++ ys) (append-nil (escaped_sign x))) ∙ encodes-append (flat_map escaped_sign xs) (escaped_sign x)

pub map_id : (xs : List ℕ) → map (λ x. x) xs ≡ xs
map_id [] = refl
map_id (x ∷ xs) = ap (λ (ys : List ℕ). x ∷ ys) (map_id xs)
