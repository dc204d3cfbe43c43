-- What stands for the characters of a text stands for its bytes.
use Rattle.std.proofs.Common.{◌≡◌, ℕ, ◌+◌, ◌/◌, ◌%◌, ◌<◌, ◌≤◌, ◌&&◌, ◌⊎◌, inl, inr, List, [], ◌∷◌, ◌++◌, Bool, true, false, cond, ltb, eqb, map, refl, sym, ap, ◌∙◌, arith, append-nil}
use Rattle.std.specs.Prelude.{if◌then◌else◌}
use Rattle.std.specs.List.{flat_map}
use Rattle.std.specs.Str.{chars, IsUtf8}
use Rattle.std.specs.Char.{encode_utf8}
use Rattle.std.proofs.lemmas.Bool.{cases_lt, le-ltb, lt-ltb, ne_eqb}
use Rattle.std.proofs.lemmas.List.Concat.{flat_map-append}
use Rattle.std.proofs.lemmas.Str.{encode_ascii, encodes-chars}
use lib.Utf8.{encodes}
use Rattle.span_names.specs.Names.{escaped, escaped_byte, is_escaped}
use Rattle.span_names.specs.inner.Characters.{escaped_char}

-- a byte of a longer character stands as it is
high : (b : ℕ) → 128 ≤ b → escaped_byte b ≡ b ∷ []
high b h =
    let p : eqb b 37 ≡ false = ne_eqb b 37 (λ e. omega (arith, e, h)) in
    let q : eqb b 64 ≡ false = ne_eqb b 64 (λ e. omega (arith, e, h)) in
    let r : ltb b 32 ≡ false = le-ltb b 32 (omega (arith, h)) in
    let s : eqb b 127 ≡ false = ne_eqb b 127 (λ e. omega (arith, e, h)) in
    rw (p, q, r, s) refl

highs2 : (a b : ℕ) → 128 ≤ a → 128 ≤ b → flat_map escaped_byte (a ∷ b ∷ []) ≡ a ∷ b ∷ []
highs2 a b p q = rw (high a p, high b q) refl

highs3 : (a b c : ℕ) → 128 ≤ a → 128 ≤ b → 128 ≤ c → flat_map escaped_byte (a ∷ b ∷ c ∷ []) ≡ a ∷ b ∷ c ∷ []
highs3 a b c p q r = rw (high a p, high b q, high c r) refl

highs4 : (a b c d : ℕ) → 128 ≤ a → 128 ≤ b → 128 ≤ c → 128 ≤ d → flat_map escaped_byte (a ∷ b ∷ c ∷ d ∷ []) ≡ a ∷ b ∷ c ∷ d ∷ []
highs4 a b c d p q r s = rw (high a p, high b q, high c r, high d s) refl

long_char : (c : ℕ) → 128 ≤ c → flat_map escaped_byte (encode_utf8 c) ≡ encode_utf8 c
unfolding encode_utf8
long_char c h = let t : ltb c 128 ≡ false = le-ltb c 128 h in rw t (by (ltb c 2048) (ltb c 65536))
  where
    Long : Bool → Bool → List ℕ
    Long x y = cond x ((192 + c / 64) ∷ (128 + c % 64) ∷ []) (cond y ((224 + c / 4096) ∷ (128 + (c / 64) % 64) ∷ (128 + c % 64) ∷ []) ((240 + c / 262144) ∷ (128 + (c / 4096) % 64) ∷ (128 + (c / 64) % 64) ∷ (128 + c % 64) ∷ []))

    by : (x y : Bool) → flat_map escaped_byte (Long x y) ≡ Long x y
    by true y = highs2 _ _ (omega arith) (omega arith)
    by false true = highs3 _ _ _ (omega arith) (omega arith) (omega arith)
    by false false = highs4 _ _ _ _ (omega arith) (omega arith) (omega arith) (omega arith)

one_char : (c : ℕ) → flat_map escaped_byte (encode_utf8 c) ≡ escaped_char c
one_char c = by (cases_lt c 128)
  where
    by : (c < 128) ⊎ (128 ≤ c) → flat_map escaped_byte (encode_utf8 c) ≡ escaped_char c
    by (inl lt) = ap (flat_map escaped_byte) (encode_ascii c lt) ∙ append-nil (escaped_byte c) ∙ also (is_escaped c) refl
      where
        also : (b : Bool) → is_escaped c ≡ b → escaped_byte c ≡ escaped_char c
        also true e = let t : ltb c 128 ≡ true = lt-ltb c 128 lt in sym (ap (λ x. if x && is_escaped c then escaped_byte c else encode_utf8 c) t ∙ ap (λ x. if x then escaped_byte c else encode_utf8 c) e)
        also false e =
            let t : ltb c 128 ≡ true = lt-ltb c 128 lt in
            let plain : escaped_byte c ≡ c ∷ [] = rw e refl in
            plain ∙ sym (encode_ascii c lt) ∙ sym (ap (λ x. if x && is_escaped c then escaped_byte c else encode_utf8 c) t ∙ ap (λ x. if x then escaped_byte c else encode_utf8 c) e)
    by (inr ge) = let t : ltb c 128 ≡ false = le-ltb c 128 ge in long_char c ge ∙ sym (ap (λ x. if x && is_escaped c then escaped_byte c else encode_utf8 c) t)

all_chars : (cs : List ℕ) → flat_map escaped_byte (encodes cs) ≡ flat_map escaped_char cs
all_chars [] = refl
all_chars (c ∷ cs) = flat_map-append escaped_byte (encode_utf8 c) (encodes cs) ∙ ap (λ (xs : List ℕ). xs ++ flat_map escaped_byte (encodes cs)) (one_char c) ∙ ap (λ (xs : List ℕ). escaped_char c ++ xs) (all_chars cs)

pub escaped_chars : (text : List ℕ) → IsUtf8 text → flat_map escaped_char (chars text) ≡ escaped text
escaped_chars text utf8 = sym (all_chars (chars text)) ∙ ap (flat_map escaped_byte) (encodes-chars text utf8)

pub map_id : (xs : List ℕ) → map (λ x. x) xs ≡ xs
map_id [] = refl
map_id (x ∷ xs) = ap (λ (ys : List ℕ). x ∷ ys) (map_id xs)
