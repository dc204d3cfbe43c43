-- No two bases with numbers and pieces have one name.
use Rattle.std.proofs.Common.{◌≡◌, ◌≢◌, ℕ, ◌+◌, ◌^◌, ◌<◌, ◌≤◌, ◌&&◌, ◌||◌, ◌==◌, not, List, [], ◌∷◌, ◌++◌, Bool, true, false, cond, Option, Some, None, length, take, drop, decimal, codes, refl, sym, ap, ◌∙◌, true≢false, append-nil, append_assoc, arith, eq-eqb}
use Rattle.std.specs.Prelude.{nat_le, nat_lt, IfSome}
use Rattle.std.specs.Char.{is_ascii_digit}
use Rattle.std.specs.List.{list_all, list_any}
use Rattle.std.proofs.lemmas.Bool.{and_parts, eqb-true, leb-true, lt-ltb, ne_eqb, or_from}
use Rattle.std.proofs.lemmas.Fmt.{decimal_injective, decimal_nonempty, digits_decimal}
use Rattle.std.proofs.lemmas.List.{drop_at, length-append, take_at}
use Rattle.std.proofs.lemmas.List.Folds.{list_any-append}
use Rattle.task_pieces.specs.PieceNames.{is_number_sign}
use Rattle.trace_types.proofs.DecimalLemmas.{decimal_numerals}
use Rattle.span_names.specs.NameLaws.{HasSize, NumberingIsOneToOne}
use Rattle.span_names.specs.Names.{are_parts_at, gap_text, is_number, is_numbering, is_piece, looks_numbered, piece_text, place_of, stands_alone}
use Rattle.span_names.specs.declared.piece.Piece.{Piece}

-- ---- lists

first_same : {x y : ℕ} {xs ys : List ℕ} → x ∷ xs ≡ y ∷ ys → x ≡ y
first_same h = cc

rest_same : {x y : ℕ} {xs ys : List ℕ} → x ∷ xs ≡ y ∷ ys → xs ≡ ys
rest_same h = cc

none_some : {x : ℕ} {xs : List ℕ} → [] ≡ x ∷ xs → ⊥
none_some h = cc

or_right : (a b : Bool) → b ≡ true → (a || b) ≡ true
or_right true b h = refl
or_right false b h = h

both : (a b : Bool) → a ≡ true → b ≡ true → (a && b) ≡ true
both a b g h = rw (g, h) refl

-- ---- digits

abbrev AreDigits : List ℕ → Type 0
AreDigits ds = list_all is_ascii_digit ds ≡ true

digits_of : (n : ℕ) → n < 2 ^ 64 → AreDigits (decimal n)
digits_of n h = digits_decimal decimal_numerals n h

digit_low : (d : ℕ) → is_ascii_digit d ≡ true → (48 ≤ d) × (d ≤ 57)
digit_low d h = let p = and_parts (nat_le 48 d) (nat_le d 57) h in (leb-true 48 d p.0, leb-true d 57 p.1)

number_of : (ds : List ℕ) → AreDigits ds → 0 < length ds → is_number ds ≡ true
number_of ds h some = both (not (length ds == 0)) (list_all is_ascii_digit ds) (let e : (length ds == 0) ≡ false = ne_eqb (length ds) 0 (λ z. omega (arith, z, some)) in rw e refl) h

is_number-decimal : (n : ℕ) → n < 2 ^ 64 → is_number (decimal n) ≡ true
is_number-decimal n h = number_of (decimal n) (digits_of n h) (decimal_nonempty n h)

-- a text that does not go on with a digit
abbrev ends_digits : List ℕ → Bool
ends_digits [] = true
ends_digits (c ∷ cs) = not (is_ascii_digit c)

no_digit : (d : ℕ) (ds : List ℕ) → AreDigits (d ∷ ds) → ends_digits (d ∷ ds) ≡ true → ⊥
no_digit d ds h e = let p = and_parts (is_ascii_digit d) (list_all is_ascii_digit ds) h in true≢false (sym e ∙ ap not p.0)

more_digits : (d : ℕ) (ds : List ℕ) → AreDigits (d ∷ ds) → AreDigits ds
more_digits d ds h = (and_parts (is_ascii_digit d) (list_all is_ascii_digit ds) h).1

-- digits end where the text does not go on with one
split_digits : (ds es x y : List ℕ) → AreDigits ds → AreDigits es → ends_digits x ≡ true → ends_digits y ≡ true → ds ++ x ≡ es ++ y → (ds ≡ es) × (x ≡ y)
split_digits [] [] x y g h e f same = (refl, same)
split_digits [] (d ∷ es) x y g h e f same = absurd (true≢false (sym e ∙ ap ends_digits same ∙ ap not (and_parts (is_ascii_digit d) (list_all is_ascii_digit es) h).0))
split_digits (d ∷ ds) [] x y g h e f same = absurd (true≢false (sym f ∙ ap ends_digits (sym same) ∙ ap not (and_parts (is_ascii_digit d) (list_all is_ascii_digit ds) g).0))
split_digits (d ∷ ds) (c ∷ es) x y g h e f same =
    let one = split_digits ds es x y (more_digits d ds g) (more_digits c es h) e f (rest_same same) in
    (ap (λ z. z ∷ ds) (first_same same) ∙ ap (λ (zs : List ℕ). c ∷ zs) one.0, one.1)

-- ---- pieces

gap_ends : (gap : Option ℕ) → ends_digits (gap_text gap) ≡ true
gap_ends None = refl
gap_ends (Some g) = refl

piece_ends : (p : Option Piece) → ends_digits (piece_text p) ≡ true
piece_ends None = refl
piece_ends (Some piece) = refl

gap_once : (g h : Option ℕ) → IfSome g (λ n. n < 2 ^ 64) → IfSome h (λ n. n < 2 ^ 64) → gap_text g ≡ gap_text h → g ≡ h
gap_once None None p q same = refl
gap_once None (Some n) p q same = absurd (none_some same)
gap_once (Some m) None p q same = absurd (none_some (sym same))
gap_once (Some m) (Some n) p q same = ap (λ k. Some k) (decimal_injective m n p q (rest_same same))

piece_once : (p q : Option Piece) → HasSize p → HasSize q → piece_text p ≡ piece_text q → p ≡ q
piece_once None None g h same = refl
piece_once None (Some r) g h same = absurd (none_some same)
piece_once (Some r) None g h same = absurd (none_some (sym same))
piece_once (Some r) (Some s) g h same =
    let one = split_digits (decimal r.number) (decimal s.number) (gap_text r.gap) (gap_text s.gap) (digits_of r.number g.0) (digits_of s.number h.0) (gap_ends r.gap) (gap_ends s.gap) (rest_same same) in
    let number = decimal_injective r.number s.number g.0 h.0 one.0 in
    let gap = gap_once r.gap s.gap g.1 h.1 one.1 in
    λ i. Some record { number = number i; gap = gap i }

-- ---- what follows a number sign

abbrev numbering : ℕ → Option Piece → List ℕ
numbering m p = decimal m ++ piece_text p

numbering_once : (m n : ℕ) (p q : Option Piece) → m < 2 ^ 64 → n < 2 ^ 64 → HasSize p → HasSize q → numbering m p ≡ numbering n q → (m ≡ n) × (p ≡ q)
numbering_once m n p q k l g h same =
    let one = split_digits (decimal m) (decimal n) (piece_text p) (piece_text q) (digits_of m k) (digits_of n l) (piece_ends p) (piece_ends q) same in
    (decimal_injective m n k l one.0, piece_once p q g h one.1)

abbrev HasNoSign : List ℕ → Type 0
HasNoSign text = list_any is_number_sign text ≡ false

no_sign_both : (x y : List ℕ) → HasNoSign x → HasNoSign y → HasNoSign (x ++ y)
no_sign_both x y g h = list_any-append is_number_sign x y ∙ or_from (list_any is_number_sign x) (list_any is_number_sign y) g h

no_sign_digits : (ds : List ℕ) → AreDigits ds → HasNoSign ds
no_sign_digits [] h = refl
no_sign_digits (d ∷ ds) h =
    let p = and_parts (is_ascii_digit d) (list_all is_ascii_digit ds) h in
    let low = digit_low d p.0 in
    or_from (is_number_sign d) (list_any is_number_sign ds) (ne_eqb d 35 (λ e. omega (arith, e, low.0))) (no_sign_digits ds p.1)

no_sign_gap : (gap : Option ℕ) → IfSome gap (λ n. n < 2 ^ 64) → HasNoSign (gap_text gap)
no_sign_gap None h = refl
no_sign_gap (Some g) h = no_sign_digits (decimal g) (digits_of g h)

no_sign_piece : (p : Option Piece) → HasSize p → HasNoSign (piece_text p)
no_sign_piece None h = refl
no_sign_piece (Some piece) h = no_sign_both (decimal piece.number) (gap_text piece.gap) (no_sign_digits (decimal piece.number) (digits_of piece.number h.0)) (no_sign_gap piece.gap h.1)

no_sign : (m : ℕ) (p : Option Piece) → m < 2 ^ 64 → HasSize p → HasNoSign (numbering m p)
no_sign m p k h = no_sign_both (decimal m) (piece_text p) (no_sign_digits (decimal m) (digits_of m k)) (no_sign_piece p h)

sign_there : (x y : List ℕ) → list_any is_number_sign (x ++ 35 ∷ y) ≡ true
sign_there [] y = refl
sign_there (c ∷ x) y = or_right (is_number_sign c) (list_any is_number_sign (x ++ 35 ∷ y)) (sign_there x y)

-- the last number sign of both
split_sign : (b c x y : List ℕ) → HasNoSign x → HasNoSign y → b ++ 35 ∷ x ≡ c ++ 35 ∷ y → (b ≡ c) × (x ≡ y)
split_sign [] [] x y g h same = (refl, rest_same same)
split_sign [] (d ∷ c) x y g h same = absurd (true≢false (sym (sign_there c y) ∙ ap (list_any is_number_sign) (sym (rest_same same)) ∙ g))
split_sign (d ∷ b) [] x y g h same = absurd (true≢false (sym (sign_there b x) ∙ ap (list_any is_number_sign) (rest_same same) ∙ h))
split_sign (d ∷ b) (e ∷ c) x y g h same =
    let one = split_sign b c x y g h (rest_same same) in
    (ap (λ z. z ∷ b) (first_same same) ∙ ap (λ (zs : List ℕ). e ∷ zs) one.0, one.1)

-- ---- a numbered name looks numbered

place_behind : (byte : ℕ) (ds x : List ℕ) → is_ascii_digit byte ≡ false → AreDigits ds → place_of byte (ds ++ byte ∷ x) ≡ length ds
place_behind byte [] x e h = let same : (byte == byte) ≡ true = eq-eqb byte byte refl in rw same refl
place_behind byte (d ∷ ds) x e h = let other : (d == byte) ≡ false = ne_eqb d byte differ in rw (other, place_behind byte ds x e (more_digits d ds h)) (omega arith)
  where
    differ : d ≢ byte
    differ q = true≢false (sym (and_parts (is_ascii_digit d) (list_all is_ascii_digit ds) h).0 ∙ ap is_ascii_digit q ∙ e)

parts_of : (byte : ℕ) (ds x : List ℕ) (second : List ℕ → Bool) → is_ascii_digit byte ≡ false → AreDigits ds → is_number ds ≡ true → second x ≡ true → are_parts_at (place_of byte (ds ++ byte ∷ x)) is_number second (ds ++ byte ∷ x) ≡ true
parts_of byte ds x second e h one two =
    ap (λ at. are_parts_at at is_number second (ds ++ byte ∷ x)) (place_behind byte ds x e h)
    ∙ both (nat_lt (length ds) (length (ds ++ byte ∷ x))) (is_number (take (length ds) (ds ++ byte ∷ x)) && second (drop (length ds + 1) (ds ++ byte ∷ x)))
    (lt-ltb (length ds) (length (ds ++ byte ∷ x)) (omega (arith, length-append ds (byte ∷ x))))
    (both (is_number (take (length ds) (ds ++ byte ∷ x))) (second (drop (length ds + 1) (ds ++ byte ∷ x)))
    (ap is_number (take_at ds (byte ∷ x) (length ds) refl) ∙ one) (ap second behind ∙ two))
  where
    behind : drop (length ds + 1) (ds ++ byte ∷ x) ≡ x
    behind = ap (drop (length ds + 1)) (sym (append_assoc ds (byte ∷ []) x)) ∙ drop_at (ds ++ byte ∷ []) x (length ds + 1) (length-append ds (byte ∷ []))

is_piece-text : (piece : Piece) → piece.number < 2 ^ 64 → IfSome piece.gap (λ g. g < 2 ^ 64) → is_piece (decimal piece.number ++ gap_text piece.gap) ≡ true
is_piece-text piece h g = by piece.gap g
  where
    by : (gap : Option ℕ) → IfSome gap (λ g. g < 2 ^ 64) → is_piece (decimal piece.number ++ gap_text gap) ≡ true
    by None g = ap is_piece (append-nil (decimal piece.number)) ∙ ap (λ b. b || are_parts_at (place_of 46 (decimal piece.number)) is_number is_number (decimal piece.number)) (is_number-decimal piece.number h)
    by (Some n) g =
        or_right (is_number (decimal piece.number ++ 46 ∷ decimal n)) (are_parts_at (place_of 46 (decimal piece.number ++ 46 ∷ decimal n)) is_number is_number (decimal piece.number ++ 46 ∷ decimal n))
        (parts_of 46 (decimal piece.number) (decimal n) is_number refl (digits_of piece.number h) (is_number-decimal piece.number h) (is_number-decimal n g))

is_numbering-text : (m : ℕ) (p : Option Piece) → m < 2 ^ 64 → HasSize p → is_numbering (numbering m p) ≡ true
is_numbering-text m None k h = ap is_numbering (append-nil (decimal m)) ∙ ap (λ b. b || are_parts_at (place_of 47 (decimal m)) is_number is_piece (decimal m)) (is_number-decimal m k)
is_numbering-text m (Some piece) k h =
    or_right (is_number (decimal m ++ 47 ∷ (decimal piece.number ++ gap_text piece.gap)))
    (are_parts_at (place_of 47 (decimal m ++ 47 ∷ (decimal piece.number ++ gap_text piece.gap))) is_number is_piece (decimal m ++ 47 ∷ (decimal piece.number ++ gap_text piece.gap)))
    (parts_of 47 (decimal m) (decimal piece.number ++ gap_text piece.gap) is_piece refl (digits_of m k) (is_number-decimal m k) (is_piece-text piece h.0 h.1))

looks : (base x : List ℕ) → is_numbering x ≡ true → looks_numbered (base ++ 35 ∷ x) ≡ true
looks [] x h = ap (λ b. b || looks_numbered x) h
looks (c ∷ base) x h = or_right (is_number_sign c && is_numbering (base ++ 35 ∷ x)) (looks_numbered (base ++ 35 ∷ x)) (looks base x h)

-- ---- names

alone : (base : List ℕ) (m : ℕ) (p : Option Piece) → stands_alone base m p ≡ true → (p ≡ None) × (m ≡ 1) × (looks_numbered base ≡ false)
alone base m None h = let parts = and_parts (m == 1) (not (looks_numbered base)) h in (refl, eqb-true m 1 parts.0, off (looks_numbered base) parts.1)
  where
    off : (b : Bool) → not b ≡ true → b ≡ false
    off true e = absurd (true≢false (sym e))
    off false e = refl
alone base m (Some piece) h = absurd (true≢false (sym h))

behind_sign : (base : List ℕ) (m : ℕ) (p : Option Piece) → base ++ codes "#" ++ decimal m ++ piece_text p ≡ base ++ 35 ∷ numbering m p
behind_sign base m p = append_assoc (base ++ codes "#") (decimal m) (piece_text p) ∙ append_assoc base (codes "#") (decimal m ++ piece_text p)

pub numbered_once : NumberingIsOneToOne
numbered_once base other m n p q k l g h same = by (stands_alone base m p) (stands_alone other n q) refl refl same
  where
    Form : List ℕ → ℕ → Option Piece → Bool → List ℕ
    Form b i r x = cond x b (b ++ codes "#" ++ decimal i ++ piece_text r)

    clash : (b c : List ℕ) (i : ℕ) (r : Option Piece) → i < 2 ^ 64 → HasSize r → looks_numbered b ≡ false → b ≡ c ++ codes "#" ++ decimal i ++ piece_text r → ⊥
    clash b c i r low size plain e = true≢false (sym (looks c (numbering i r) (is_numbering-text i r low size)) ∙ ap looks_numbered (sym (e ∙ behind_sign c i r)) ∙ plain)

    by : (x y : Bool) → stands_alone base m p ≡ x → stands_alone other n q ≡ y → Form base m p x ≡ Form other n q y → (base ≡ other) × (m ≡ n) × (p ≡ q)
    by true true e f s = let one = alone base m p e in let two = alone other n q f in (s, one.1 ∙ sym two.1, one.0 ∙ sym two.0)
    by true false e f s = absurd (clash base other n q l h (alone base m p e).2 s)
    by false true e f s = absurd (clash other base m p k g (alone other n q f).2 (sym s))
    by false false e f s =
        let one = split_sign base other (numbering m p) (numbering n q) (no_sign m p k g) (no_sign n q l h) (sym (behind_sign base m p) ∙ s ∙ behind_sign other n q) in
        let two = numbering_once m n p q k l g h one.1 in
        (one.0, two.0, two.1)
