-- The first line of bytes, and the lines after it.
use Rattle.std.proofs.Common.{◌≡◌, ℕ, ◌+◌, ◌<◌, List, [], ◌∷◌, length, take, drop, Bool, true, false, Option, Some, None, arith, refl, sym, ap, ◌∙◌}
use Rattle.std.specs.List.{All}
use Rattle.std.specs.Prelude.{unwrap_or}
use Rattle.std.specs.List.{position_or_len, enumerate_from}
use Rattle.std.specs.Option.{option_map_or}
use Rattle.std.specs.Borrow.{Bor}
use Rattle.std.proofs.lemmas.List.{take_all}
use Rattle.std.proofs.lemmas.List.Splits.{slice_split_first, slice_split_none}
use Rattle.std.proofs.lemmas.List.Sums.{fails_before_first, position_or_len_is}
use Rattle.memchr.specs.Find.{IsFirstByte, is_byte}
use Rattle.event_lines.specs.Cut.{is_line_feed, input_lines}

false_from_not : (b : Bool) → (b ≡ true → ⊥) → b ≡ false
false_from_not true h = absurd (h refl)
false_from_not false h = refl

-- the first line feed that a search finds is where the first line ends
pub end_found : (bytes : List ℕ) (found : Option ℕ) → IsFirstByte (is_byte 10) bytes found → position_or_len is_line_feed bytes ≡ unwrap_or found (length bytes)
end_found bytes None nowhere =
    position_or_len_is is_line_feed bytes (length bytes) 0 (omega arith) (λ k lt. false_from_not _ (nowhere k (omega arith) lt)) (λ lt. absurd (omega arith))
end_found bytes (Some i) h =
    position_or_len_is is_line_feed bytes i 0 (omega (arith, h.0.high)) (λ k lt. false_from_not _ (h.0.before k (omega arith) lt)) (λ lt. h.1)

-- a line feed ends the first line
pub line_and_more : (n : ℕ) (bytes : List ℕ) (end : ℕ) → position_or_len is_line_feed bytes ≡ end → end < length bytes
    → enumerate_from n (input_lines bytes) ≡ (n, take end bytes) ∷ enumerate_from (n + 1) (input_lines (drop (end + 1) bytes))
line_and_more n bytes end e lt =
    let within : position_or_len is_line_feed bytes < length bytes = omega arith in
    ap (enumerate_from n) (slice_split_first is_line_feed bytes 0 within ∙ ap (λ k. take k bytes ∷ input_lines (drop (k + 1) bytes)) e)

no_feed : (bytes : List ℕ) → position_or_len is_line_feed bytes ≡ length bytes → All (λ byte. is_line_feed byte ≡ false) bytes
no_feed bytes e k d lt = fails_before_first is_line_feed bytes k d (omega (arith, e))

-- the last line goes to the end
pub line_alone : (n : ℕ) (bytes : List ℕ) (end : ℕ) → position_or_len is_line_feed bytes ≡ end → end ≡ length bytes
    → enumerate_from n (input_lines bytes) ≡ (n, take end bytes) ∷ []
line_alone n bytes end e f =
    ap (enumerate_from n) (slice_split_none is_line_feed bytes (no_feed bytes (e ∙ f))) ∙ ap (λ line. (n, line) ∷ []) (sym (take_all end bytes (omega arith)))

module _ (n : ℕ) (old : Option (Bor (List ℕ))) (rest : Bor (List ℕ)) (end : ℕ) (line : List ℕ) (was : old ≡ Some rest) (first : position_or_len is_line_feed rest.now ≡ end) (is : line ≡ take end rest.now) where
  abbrev lines_of : Option (Bor (List ℕ)) → List (ℕ × List ℕ)
  lines_of o = option_map_or (λ (r : Bor (List ℕ)). enumerate_from n (input_lines r.now)) o []

  -- a line is taken, and others are left
  pub line_taken : (more : List ℕ) → more ≡ drop (end + 1) rest.now → end < length rest.now → lines_of old ≡ (n, line) ∷ enumerate_from (n + 1) (input_lines more)
  line_taken more same lt =
      ap lines_of was ∙ line_and_more n rest.now end first lt
      ∙ ap (λ l. (n, l) ∷ enumerate_from (n + 1) (input_lines (drop (end + 1) rest.now))) (sym is)
      ∙ ap (λ m. (n, line) ∷ enumerate_from (n + 1) (input_lines m)) (sym same)

  -- the last line is taken
  pub last_taken : end ≡ length rest.now → lines_of old ≡ (n, line) ∷ []
  last_taken all = ap lines_of was ∙ line_alone n rest.now end first all ∙ ap (λ l. (n, l) ∷ []) (sym is)
