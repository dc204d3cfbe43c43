-- The lines of bytes, one after another.
use Rattle.std.proofs.Common.{◌≡◌, ◌<◌, ◌+◌, ℕ, zero, suc, List, [], ◌∷◌, ◌++◌, false, length, get_or, take, drop, map, ap, arith, sym, ◌∙◌}
use Rattle.std.specs.List.{AllByRecursion}
use Rattle.std.specs.Borrow.{Bor}
use Rattle.std.proofs.Math.ListN.{get_or-map}
use Rattle.std.proofs.lemmas.List.{length-map, length-take-le, take-append-drop, take_more}
use Rattle.std.proofs.lemmas.List.Elements.{All-append}
use Rattle.std.proofs.lemmas.List.Splits.{slice_split_none}
use Rattle.event_lines.specs.Cut.{input_lines, is_line_feed}
use Rattle.event_lines.proofs.ClearLineLemmas.{IsClear, lines_clear, one_clear}
use Rattle.line_split.specs.Lines.{lines_from}

clear_at : (lines : List (List ℕ)) (i : ℕ) (d : List ℕ) → i < length lines → AllByRecursion IsClear lines → IsClear (get_or lines i d)
clear_at [] i d lt h = absurd (omega arith)
clear_at (l ∷ ls) zero d lt h = h.0
clear_at (l ∷ ls) (suc i) d lt h = clear_at ls i d (omega arith) h.1

-- a line is the one line of its own bytes
pub one_line : (bytes : List ℕ) (i : ℕ) (d : List ℕ) → i < length (input_lines bytes) → input_lines (get_or (input_lines bytes) i d) ≡ get_or (input_lines bytes) i d ∷ []
one_line bytes i d lt = slice_split_none is_line_feed (get_or (input_lines bytes) i d) (clear_at (input_lines bytes) i d lt (lines_clear bytes))

-- two pieces of one line each are one line together
pub one_more : (a b : List ℕ) → input_lines a ≡ a ∷ [] → input_lines b ≡ b ∷ [] → input_lines (a ++ b) ≡ (a ++ b) ∷ []
one_more a b here there = slice_split_none is_line_feed (a ++ b) (All-append (λ byte. is_line_feed byte ≡ false) a b (one_clear a here) (one_clear b there))

pub lines_append : (file n : ℕ) (xs ys : List (List ℕ)) → lines_from file n (xs ++ ys) ≡ lines_from file n xs ++ lines_from file (n + length xs) ys
lines_append file n [] ys = ap (λ k. lines_from file k ys) (omega arith)
lines_append file n (x ∷ xs) ys =
    ap (λ ls. record { file = file; number = n; bytes = x } ∷ ls) (lines_append file (n + 1) xs ys ∙ ap (λ k. lines_from file (n + 1) xs ++ lines_from file k ys) (omega arith))

-- one line more
pub lines_more : (file n : ℕ) (lines : List (List ℕ)) (i : ℕ) (d : List ℕ) → i < length lines
    → lines_from file n (take (i + 1) lines) ≡ lines_from file n (take i lines) ++ record { file = file; number = n + i; bytes = get_or lines i d } ∷ []
lines_more file n lines i d lt =
    ap (lines_from file n) (take_more lines i d lt) ∙ lines_append file n (take i lines) (get_or lines i d ∷ [])
    ∙ ap (λ k. lines_from file n (take i lines) ++ record { file = file; number = n + k; bytes = get_or lines i d } ∷ []) (length-take-le i lines (omega arith))

-- the first lines, and those after them
pub lines_split : (file n i : ℕ) (lines : List (List ℕ)) → lines_from file n lines ≡ lines_from file n (take i lines) ++ lines_from file (n + length (take i lines)) (drop i lines)
lines_split file n i lines = ap (lines_from file n) (sym (take-append-drop i lines)) ∙ lines_append file n (take i lines) (drop i lines)

-- a line as it was read
pub line_read : (items found : List (Bor (List ℕ))) (lines : List (List ℕ)) (i : ℕ) (d : Bor (List ℕ)) → found ≡ items → map (λ (line : Bor (List ℕ)). line.now) items ≡ lines → (get_or found i d).now ≡ get_or lines i d.now
line_read items found lines i d is same =
    ap (λ (xs : List (Bor (List ℕ))). (get_or xs i d).now) is ∙ sym (get_or-map (λ (line : Bor (List ℕ)). line.now) items i d) ∙ ap (λ (ls : List (List ℕ)). get_or ls i d.now) same

pub line_count : (items : List (Bor (List ℕ))) (lines : List (List ℕ)) → map (λ (line : Bor (List ℕ)). line.now) items ≡ lines → length lines ≡ length items
line_count items lines same = ap length (sym same) ∙ length-map items (λ (line : Bor (List ℕ)). line.now)
