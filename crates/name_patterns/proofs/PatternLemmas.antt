-- Patterns, byte after byte.
use Rattle.std.proofs.Common.{◌≡◌, ℕ, ◌+◌, ◌-◌, ◌<◌, ◌&&◌, ◌||◌, List, [], ◌∷◌, ◌++◌, Bool, true, false, eqb, length, get_or, map-id, take, ap, refl, sym, ◌∙◌, arith, append-nil, append_assoc}
use Rattle.std.specs.Prelude.{codes, flat_map, if◌then◌else◌}
use Rattle.std.specs.Char.{is_ascii_hexdigit}
use Rattle.std.specs.List.{range_with_len, suffix_len}
use Rattle.std.proofs.lemmas.Bool.{lt-ltb}
use Rattle.std.proofs.lemmas.List.Concat.{flat_map-append}
use Rattle.std.proofs.lemmas.List.Folds.{list_any_more}
use Rattle.std.proofs.lemmas.List.FromFn.{map-range_with_len_more}
use Rattle.std.proofs.lemmas.List.Sums.{suffix_len-take_no, suffix_len-take_yes}
use Rattle.name_patterns.specs.Patterns.{is_uuid_byte, pattern_of, piece_at, varied_before, varies}
use Rattle.name_patterns.specs.declared.pattern.Before.{Before}
use Rattle.name_patterns.specs.inner.Bytes.{AreBefore, after_byte, byte_or_hole}

range_more : (n : ℕ) → range_with_len 0 (n + 1) ≡ range_with_len 0 n ++ n ∷ []
range_more n = sym (map-id (range_with_len 0 (n + 1))) ∙ (map-range_with_len_more (λ (x : ℕ). x) 0 n n (omega arith) ∙ ap (λ (l : List ℕ). l ++ n ∷ []) (map-id (range_with_len 0 n)))

flat_range_more : (f : ℕ → List ℕ) (n : ℕ) → flat_map f (range_with_len 0 (n + 1)) ≡ flat_map f (range_with_len 0 n) ++ f n
flat_range_more f n = ap (flat_map f) (range_more n) ∙ (flat_map-append f (range_with_len 0 n) (n ∷ []) ∙ ap (λ (l : List ℕ). flat_map f (range_with_len 0 n) ++ l) (append-nil (f n)))

-- the pieces of one byte more
pub pieces_more : (bytes old now new : List ℕ) (at : ℕ) (v before : Bool) → now ≡ old ++ flat_map (piece_at bytes) (range_with_len 0 at) → v ≡ varies bytes at → before ≡ varied_before bytes at
    → new ≡ now ++ byte_or_hole (get_or bytes at 0) v before → new ≡ old ++ flat_map (piece_at bytes) (range_with_len 0 (at + 1))
pieces_more bytes old now new at v before so is is_before e =
    e ∙ ap (λ l. l ++ byte_or_hole (get_or bytes at 0) v before) so
    ∙ ap (λ b. (old ++ flat_map (piece_at bytes) (range_with_len 0 at)) ++ byte_or_hole (get_or bytes at 0) b before) is
    ∙ ap (λ b. (old ++ flat_map (piece_at bytes) (range_with_len 0 at)) ++ byte_or_hole (get_or bytes at 0) (varies bytes at) b) is_before
    ∙ append_assoc old (flat_map (piece_at bytes) (range_with_len 0 at)) (piece_at bytes at)
    ∙ ap (λ l. old ++ l) (sym (flat_range_more (piece_at bytes) at))

row_more : (p : ℕ → Bool) (bytes : List ℕ) (at n : ℕ) → at < length bytes → n ≡ suffix_len p (take at bytes) → (if p (get_or bytes at 0) then n + 1 else 0) ≡ suffix_len p (take (at + 1) bytes)
row_more p bytes at n lt is = by (p (get_or bytes at 0)) refl
  where
    back : get_or bytes (at + 1 - 1) 0 ≡ get_or bytes at 0
    back = ap (λ k. get_or bytes k 0) (omega arith)

    by : (b : Bool) → p (get_or bytes at 0) ≡ b → (if p (get_or bytes at 0) then n + 1 else 0) ≡ suffix_len p (take (at + 1) bytes)
    by true e =
        let grown = suffix_len-take_yes p bytes (at + 1) 0 (omega arith) (omega (arith, lt)) (ap p back ∙ e) in
        let same : suffix_len p (take (at + 1 - 1) bytes) ≡ suffix_len p (take at bytes) = ap (λ k. suffix_len p (take k bytes)) (omega arith) in
        ap (λ b. if b then n + 1 else 0) e ∙ omega (arith, is, grown, same)
    by false e = ap (λ b. if b then n + 1 else 0) e ∙ sym (suffix_len-take_no p bytes (at + 1) 0 (omega arith) (omega (arith, lt)) (ap p back ∙ e))

-- what stands before the next byte
pub before_more : (bytes : List ℕ) (at : ℕ) (b : Before) (v : Bool) → at < length bytes → AreBefore bytes at b → v ≡ varies bytes at → AreBefore bytes (at + 1) (after_byte b (get_or bytes at 0) v)
before_more bytes at b v lt h is = record {
  hex_is = row_more is_ascii_hexdigit bytes at b.hex lt h.hex_is;
  uuid_is = row_more is_uuid_byte bytes at b.uuid lt h.uuid_is;
  sign_is = ap (λ s. s || eq_sign (get_or bytes at 0)) h.sign_is ∙ sym (list_any_more eq_sign bytes at 0 lt);
  varies_is = is ∙ ap (varies bytes) back ∙ sym (ap (λ t. t && varies bytes (at + 1 - 1)) (lt-ltb 0 (at + 1) (omega arith)));
}
  where
    eq_sign : ℕ → Bool
    eq_sign c = eqb c 64

    back : at ≡ at + 1 - 1
    back = omega arith

-- ---- the definition, computed
digits_and_what_follows_a_sign : pattern_of (codes "u17@x") ≡ codes "u{}@{}"
digits_and_what_follows_a_sign = refl

eight_hex_digits : pattern_of (codes "x3f2a9c8d") ≡ codes "x{}"
eight_hex_digits = refl

seven_hex_digits : pattern_of (codes "xfeedbac") ≡ codes "xfeedbac"
seven_hex_digits = refl

a_uuid : pattern_of (codes "/x/3f2504e0-4f89-11d3-9a0c-0305e82c3301") ≡ codes "/x/{}"
a_uuid = refl

a_hyphen_ends_a_short_run : pattern_of (codes "3f2a9c81-de12") ≡ codes "{}-de{}"
a_hyphen_ends_a_short_run = refl
