-- The first line of the bytes from a place on, and the lines after it.
use Rattle.std.proofs.Common.{◌≡◌, ℕ, ◌+◌, ◌-◌, ◌<◌, ◌≤◌, List, [], ◌∷◌, length, take, drop, false, Option, Some, None, arith, sym, ap, ◌∙◌, inl, inr}
use Rattle.std.specs.Prelude.{All, unwrap_or}
use Rattle.std.specs.List.{position_or_len}
use Rattle.std.proofs.lemmas.Bool.{cases_lt}
use Rattle.std.proofs.lemmas.List.{take_rest, length-drop, drop-drop}
use Rattle.std.proofs.lemmas.List.Splits.{slice_split_first, slice_split_none}
use Rattle.std.proofs.lemmas.List.Sums.{fails_before_first, position_or_len_is}
use Rattle.memchr.specs.Find.{IsFirstByte, is_byte}
use Rattle.trace_types.proofs.TruthLemmas.{false_from_not}
use Rattle.event_lines.specs.Cut.{is_line_feed, input_lines}

-- the first line feed that a search finds is where the first line ends
pub end_found : (bytes : List ℕ) (found : Option ℕ) → IsFirstByte (is_byte 10) bytes found → position_or_len is_line_feed bytes ≡ unwrap_or found (length bytes)
end_found bytes None nowhere =
    position_or_len_is is_line_feed bytes (length bytes) 0 (omega arith) (λ k lt. false_from_not _ (nowhere k (omega arith) lt)) (λ lt. absurd (omega arith))
end_found bytes (Some i) h =
    position_or_len_is is_line_feed bytes i 0 (omega (arith, h.0.high)) (λ k lt. false_from_not _ (h.0.before k (omega arith) lt)) (λ lt. h.1)

cut_first : (bytes : List ℕ) (end : ℕ) → end ≡ position_or_len is_line_feed bytes → end < length bytes → input_lines bytes ≡ take end bytes ∷ input_lines (drop (end + 1) bytes)
cut_first bytes end e lt =
    let h : position_or_len is_line_feed bytes < length bytes = omega arith in
    slice_split_first is_line_feed bytes 0 h ∙ ap (λ n. take n bytes ∷ input_lines (drop (n + 1) bytes)) (sym e)

no_feed : (bytes : List ℕ) → position_or_len is_line_feed bytes ≡ length bytes → All (λ byte. is_line_feed byte ≡ false) bytes
no_feed bytes e k d lt = fails_before_first is_line_feed bytes k d (omega (arith, e))

cut_last : (bytes : List ℕ) (end : ℕ) → end ≡ position_or_len is_line_feed bytes → end ≡ length bytes → input_lines bytes ≡ bytes ∷ []
cut_last bytes end e f = slice_split_none is_line_feed bytes (no_feed bytes (sym e ∙ f))

pub cut_from : (bytes : List ℕ) (start n : ℕ) → position_or_len is_line_feed (take (length bytes - start) (drop start bytes)) ≡ n → start ≤ length bytes → start + n < length bytes
    → input_lines (drop start bytes) ≡ take (start + n - start) (drop start bytes) ∷ input_lines (drop (start + n + 1) bytes)
cut_from bytes start n e within lt =
    let f : n ≡ position_or_len is_line_feed (drop start bytes) = sym e ∙ ap (position_or_len is_line_feed) (take_rest bytes start) in
    let g : n < length (drop start bytes) = omega (arith, length-drop start bytes) in
    let m : start + n - start ≡ n = omega arith in
    let a : start + (n + 1) ≡ start + n + 1 = omega arith in
    cut_first (drop start bytes) n f g ∙ ap (λ xs. take n (drop start bytes) ∷ input_lines xs) (drop-drop (n + 1) start bytes ∙ ap (λ k. drop k bytes) a)
    ∙ ap (λ k. take k (drop start bytes) ∷ input_lines (drop (start + n + 1) bytes)) (sym m)

pub cut_end : (bytes : List ℕ) (start n : ℕ) → position_or_len is_line_feed (take (length bytes - start) (drop start bytes)) ≡ n → start ≤ length bytes → start + n ≡ length bytes
    → input_lines (drop start bytes) ≡ take (start + n - start) (drop start bytes) ∷ []
cut_end bytes start n e within all =
    let f : n ≡ position_or_len is_line_feed (drop start bytes) = sym e ∙ ap (position_or_len is_line_feed) (take_rest bytes start) in
    let g : n ≡ length (drop start bytes) = omega (arith, length-drop start bytes) in
    let m : length bytes - start ≡ start + n - start = omega arith in
    cut_last (drop start bytes) n f g ∙ ap (λ xs. xs ∷ []) (sym (take_rest bytes start) ∙ ap (λ k. take k (drop start bytes)) m)

-- the line from a place on is the first of the rest
pub cut_any : (bytes : List ℕ) (start n : ℕ) → position_or_len is_line_feed (take (length bytes - start) (drop start bytes)) ≡ n → start ≤ length bytes → start + n ≤ length bytes
    → (rest : List (List ℕ)) × (input_lines (drop start bytes) ≡ take (start + n - start) (drop start bytes) ∷ rest)
cut_any bytes start n e within le = elim (cases_lt (start + n) (length bytes)) [
  | inl lt ↦ (input_lines (drop (start + n + 1) bytes), cut_from bytes start n e within lt)
  | inr ge ↦ ([], cut_end bytes start n e within (omega arith))
]
