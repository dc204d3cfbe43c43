-- The lines of bytes, one after another.
use Rattle.std.proofs.Common.{◌≡◌, ◌≤◌, ◌<◌, ℕ, suc, List, [], ◌∷◌, ◌++◌, Bool, true, false, length, get_or, take, drop, ap, arith, refl, ◌∙◌}
use Rattle.std.specs.Prelude.{if◌then◌else◌, MatchOption, Option, Some, None}
use Rattle.memchr.specs.Find.{IsFirstByte, is_byte}
use Rattle.std.specs.List.{AllByRecursion, onto_first}
use Rattle.std.proofs.lemmas.List.{get_or-take, get_or_default, length-take}
use Rattle.std.proofs.lemmas.List.Elements.{All-append, All-head, All-tail}
use Rattle.std.proofs.lemmas.List.Splits.{length-slice_split, slice_split-cons_no, slice_split_none}
use Rattle.event_lines.specs.Cut.{input_lines, is_line_feed}
use Rattle.trace_types.proofs.TruthLemmas.{false_from_not}
use Rattle.event_lines.proofs.ClearLineLemmas.{IsClear}

-- what has no line feed is one line
pub clear_one : (bytes : List ℕ) → IsClear bytes → input_lines bytes ≡ bytes ∷ []
clear_one bytes clear = slice_split_none is_line_feed bytes clear

-- two pieces without a line feed have none together
pub both_clear : (a b : List ℕ) → IsClear a → IsClear b → IsClear (a ++ b)
both_clear a b here there = All-append (λ byte. is_line_feed byte ≡ false) a b here there

-- no line is longer than the bytes
abbrev pub AreShort : ℕ → List (List ℕ) → Type 0
AreShort most lines = AllByRecursion (λ line. length line ≤ most) lines

wider : (most : ℕ) (lines : List (List ℕ)) → AreShort most lines → AreShort (suc most) lines
wider most [] h = tt
wider most (line ∷ lines) h = (omega (arith, h.0), wider most lines h.1)

pub shorter : (a b : ℕ) (lines : List (List ℕ)) → a ≤ b → AreShort a lines → AreShort b lines
shorter a b [] le h = tt
shorter a b (line ∷ lines) le h = (omega (arith, h.0, le), shorter a b lines le h.1)

short_onto : (x most : ℕ) (parts : List (List ℕ)) → AreShort most parts → AreShort (suc most) (onto_first x parts)
short_onto x most [] h = (omega arith, tt)
short_onto x most (part ∷ parts) h = (omega (arith, h.0), wider most parts h.1)

short_by : (x most : ℕ) (rest : List (List ℕ)) (b : Bool) → AreShort most rest → AreShort (suc most) (if b then [] ∷ rest else onto_first x rest)
short_by x most rest true h = (omega arith, wider most rest h)
short_by x most rest false h = short_onto x most rest h

pub lines_short : (bytes : List ℕ) → AreShort (length bytes) (input_lines bytes)
lines_short [] = (omega arith, tt)
lines_short (x ∷ bytes) = short_by x (length bytes) (input_lines bytes) (is_line_feed x) (lines_short bytes)

-- what stands before the first line feed is one line
pub first_alone : (bytes : List ℕ) (found : Option ℕ) → IsFirstByte (is_byte 10) bytes found → MatchOption found (input_lines bytes ≡ bytes ∷ []) (λ at. input_lines (take at bytes) ≡ take at bytes ∷ [])
first_alone bytes None nowhere = slice_split_none is_line_feed bytes (λ k d lt. ap is_line_feed (get_or_default bytes k d 0 lt) ∙ false_from_not (is_line_feed (get_or bytes k 0)) (nowhere k (omega arith) lt))
first_alone bytes (Some i) h = slice_split_none is_line_feed (take i bytes) (λ k d lt.
    let below : k < i = omega (arith, length-take i bytes, lt) in
    let within : k < length bytes = omega (arith, length-take i bytes, lt) in
    ap is_line_feed (get_or-take i bytes k d below ∙ get_or_default bytes k d 0 within) ∙ false_from_not (is_line_feed (get_or bytes k 0)) (h.0.before k (omega arith) below))

first_and_rest : (parts : List (List ℕ)) → 0 < length parts → parts ≡ get_or parts 0 [] ∷ drop 1 parts
first_and_rest [] lt = absurd (omega arith)
first_and_rest (part ∷ parts) lt = refl

-- bytes without a line feed are part of the first line of what follows them
pub first_joined : (x later : List ℕ) → IsClear x → input_lines (x ++ later) ≡ (x ++ get_or (input_lines later) 0 []) ∷ drop 1 (input_lines later)
first_joined [] later clear = first_and_rest (input_lines later) (omega (arith, length-slice_split is_line_feed later))
first_joined (c ∷ x) later clear =
    slice_split-cons_no is_line_feed c (x ++ later) (All-head (λ byte. is_line_feed byte ≡ false) c x clear)
    ∙ ap (onto_first c) (first_joined x later (All-tail (λ byte. is_line_feed byte ≡ false) c x clear))
