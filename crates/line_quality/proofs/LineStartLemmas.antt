-- Where lines begin and end.
use Rattle.std.proofs.Common.{◌≡◌, ◌<◌, ◌+◌, ℕ, List, [], ◌∷◌, ◌++◌, Bool, true, false, get_or, length, take, drop, ap, arith, refl, sym, ◌∙◌, append_assoc, append-nil, inl, inr}
use Rattle.std.proofs.Math.Seq.{take-add, take-append-add}
use Rattle.std.specs.Prelude.{MatchOption, Option, Some, None}
use Rattle.memchr.specs.Find.{IsFirstByte, is_byte}
use Rattle.std.proofs.lemmas.List.{get_or-take, get_or_default, length-append, length-drop, length-take, length-take-le, take-append-drop}
use Rattle.std.proofs.lemmas.List.Splits.{slice_split_none}
use Rattle.event_lines.specs.Cut.{input_lines, is_line_feed}
use Rattle.line_quality.specs.declared.first_line.FirstLine.{FirstLine}
use Rattle.line_quality.specs.inner.FirstLines.{Closes, IsFirstLine, IsLineStart}

-- the bytes up to a line feed, and with it
front_and_feed : (bytes : List ℕ) (at : ℕ) → at < length bytes → bytes ≡ take at bytes ++ 10 ∷ drop (at + 1) bytes → take (at + 1) bytes ≡ take at bytes ++ 10 ∷ []
front_and_feed bytes at lt cut =
    let front = take at bytes in
    let size : length front ≡ at = length-take-le at bytes (omega (arith, lt)) in
    let both : take (length front + 1) (front ++ 10 ∷ drop (at + 1) bytes) ≡ front ++ 10 ∷ [] = take-append-add front (10 ∷ drop (at + 1) bytes) 1 in
    ap (λ (n : ℕ). take (n + 1) bytes) (sym size) ∙ ap (take (length front + 1)) cut ∙ both

pub first_closes : (bytes : List ℕ) (at : ℕ) → at < length bytes → bytes ≡ take at bytes ++ 10 ∷ drop (at + 1) bytes → input_lines (take at bytes) ≡ take at bytes ∷ [] → ((front back : List ℕ) → input_lines (front ++ 10 ∷ back) ≡ input_lines front ++ input_lines back) → Closes (take (at + 1) bytes) (take at bytes ∷ [])
first_closes bytes at lt cut one law later =
    ap (λ (xs : List ℕ). input_lines (xs ++ later)) (front_and_feed bytes at lt cut) ∙ ap input_lines (append_assoc (take at bytes) (10 ∷ []) later) ∙ law (take at bytes) later
    ∙ ap (λ (ls : List (List ℕ)). ls ++ input_lines later) one

-- bytes that end lines, one after another
pub closes_both : (a b : List ℕ) (ls ms : List (List ℕ)) → Closes a ls → Closes b ms → Closes (a ++ b) (ls ++ ms)
closes_both a b ls ms h k later =
    ap input_lines (append_assoc a b later) ∙ h (b ++ later) ∙ ap (λ (xs : List (List ℕ)). ls ++ xs) (k later) ∙ sym (append_assoc ls ms (input_lines later))

-- the lines of all bytes, by those of a part that ends lines
pub lines_at : (bytes : List ℕ) (at : ℕ) (ls : List (List ℕ)) → Closes (take at bytes) ls → input_lines bytes ≡ ls ++ input_lines (drop at bytes)
lines_at bytes at ls h = ap input_lines (sym (take-append-drop at bytes)) ∙ h (drop at bytes)

-- the lines of a text that ends lines
pub closed_lines : (text : List ℕ) (ls : List (List ℕ)) → Closes text ls → input_lines text ≡ ls ++ [] ∷ []
closed_lines text ls h = ap input_lines (sym (append-nil text)) ∙ h []

pub start_more : (bytes : List ℕ) (k at : ℕ) (line : FirstLine) → IsLineStart bytes k at → k + 1 < length (input_lines bytes) → IsFirstLine (drop at bytes) line → IsLineStart bytes (k + 1) (at + line.next)
start_more bytes k at line h lt is = elim is.lines [
  | inl one ↦ absurd (omega (arith, lt, ap length (lines_at bytes at h.lines h.closes), length-append h.lines (input_lines (drop at bytes)), h.counted, ap length one.0))
  | inr more ↦ record {
    within = omega (arith, is.within, length-drop at bytes, h.within);
    lines = h.lines ++ take line.end (drop at bytes) ∷ [];
    closes = λ later. ap (λ (xs : List ℕ). input_lines (xs ++ later)) (take-add at line.next bytes) ∙ closes_both (take at bytes) (take line.next (drop at bytes)) h.lines (take line.end (drop at bytes) ∷ []) h.closes more.1 later;
    counted = omega (arith, length-append h.lines (take line.end (drop at bytes) ∷ []), h.counted);
    apart = omega (arith, h.apart, more.0);
  }
]

false_from_not : (b : Bool) → (b ≡ true → ⊥) → b ≡ false
false_from_not true h = absurd (h refl)
false_from_not false h = refl

-- what stands before the first line feed is one line
pub first_alone : (bytes : List ℕ) (found : Option ℕ) → IsFirstByte (is_byte 10) bytes found → MatchOption found (input_lines bytes ≡ bytes ∷ []) (λ at. input_lines (take at bytes) ≡ take at bytes ∷ [])
first_alone bytes None nowhere = slice_split_none is_line_feed bytes (λ k d lt. ap is_line_feed (get_or_default bytes k d 0 lt) ∙ false_from_not (is_line_feed (get_or bytes k 0)) (nowhere k (omega arith) lt))
first_alone bytes (Some i) h = slice_split_none is_line_feed (take i bytes) (λ k d lt.
    let below : k < i = omega (arith, length-take i bytes, lt) in
    let within : k < length bytes = omega (arith, length-take i bytes, lt) in
    ap is_line_feed (get_or-take i bytes k d below ∙ get_or_default bytes k d 0 within) ∙ false_from_not (is_line_feed (get_or bytes k 0)) (h.0.before k (omega arith) below))

pub start_none : (bytes : List ℕ) → IsLineStart bytes 0 0
start_none bytes = record { within = omega arith; lines = []; closes = λ later. ap (λ (xs : List ℕ). input_lines (xs ++ later)) (take_none bytes); counted = refl; apart = omega arith }
  where
    take_none : (xs : List ℕ) → take 0 xs ≡ []
    take_none [] = refl
    take_none (x ∷ xs) = refl
