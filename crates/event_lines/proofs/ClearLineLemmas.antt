-- Lines, none of which has a line feed in it.
use Rattle.std.proofs.Common.{◌≡◌, ℕ, List, All, false, [], ◌∷◌, Bool, true, refl, subst, ◌<◌, ◌+◌, length, get_or, drop, ap, arith, ◌∙◌}
use Rattle.std.specs.List.{AllByRecursion, onto_first}
use Rattle.std.proofs.lemmas.List.Elements.{All-cons, All-nil}
use Rattle.std.specs.Prelude.{if◌then◌else◌, MatchOption, Option, Some, None}
use Rattle.memchr.specs.Find.{IsLastByte, is_byte}
use Rattle.std.proofs.lemmas.List.{get_or-drop, get_or_default, length-drop}
use Rattle.std.proofs.lemmas.List.Splits.{slice_split_none}
use Rattle.trace_types.proofs.TruthLemmas.{false_from_not}
use Rattle.event_lines.specs.Cut.{is_line_feed, input_lines}

abbrev pub IsClear : List ℕ → Type 0
IsClear line = All (λ byte. is_line_feed byte ≡ false) line

pub first_clear : (x : ℕ) (parts : List (List ℕ)) → is_line_feed x ≡ false → AllByRecursion IsClear parts → AllByRecursion IsClear (onto_first x parts)
first_clear x [] e h = (All-cons (λ byte. is_line_feed byte ≡ false) x [] e (All-nil (λ byte. is_line_feed byte ≡ false)), tt)
first_clear x (part ∷ parts) e h = (All-cons (λ byte. is_line_feed byte ≡ false) x part e h.0, h.1)

pub clear_by : (x : ℕ) (rest : List (List ℕ)) (b : Bool) → is_line_feed x ≡ b → AllByRecursion IsClear rest → AllByRecursion IsClear (if b then [] ∷ rest else onto_first x rest)
clear_by x rest true e h = (All-nil (λ byte. is_line_feed byte ≡ false), h)
clear_by x rest false e h = first_clear x rest e h

-- no line has a line feed
pub lines_clear : (bytes : List ℕ) → AllByRecursion IsClear (input_lines bytes)
lines_clear [] = (All-nil (λ byte. is_line_feed byte ≡ false), tt)
lines_clear (x ∷ bytes) = clear_by x (input_lines bytes) (is_line_feed x) refl (lines_clear bytes)

-- what has one line has no line feed
pub one_clear : (bytes : List ℕ) → input_lines bytes ≡ bytes ∷ [] → IsClear bytes
one_clear bytes one = (subst (AllByRecursion IsClear) one (lines_clear bytes)).0

-- what stands behind the last line feed is one line
pub last_alone : (bytes : List ℕ) (found : Option ℕ) → IsLastByte (is_byte 10) bytes found → MatchOption found (input_lines bytes ≡ bytes ∷ []) (λ at. input_lines (drop (at + 1) bytes) ≡ drop (at + 1) bytes ∷ [])
last_alone bytes None nowhere = slice_split_none is_line_feed bytes (λ k d lt. ap is_line_feed (get_or_default bytes k d 0 lt) ∙ false_from_not (is_line_feed (get_or bytes k 0)) (nowhere k (omega arith) lt))
last_alone bytes (Some i) h = slice_split_none is_line_feed (drop (i + 1) bytes) (λ k d lt.
    let within : i + 1 + k < length bytes = omega (arith, length-drop (i + 1) bytes, lt) in
    ap is_line_feed (get_or-drop (i + 1) bytes k d ∙ get_or_default bytes (i + 1 + k) d 0 within) ∙ false_from_not (is_line_feed (get_or bytes (i + 1 + k) 0)) (h.0.after (i + 1 + k) (omega arith) within))
