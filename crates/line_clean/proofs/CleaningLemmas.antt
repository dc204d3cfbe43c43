-- Bytes of which some lines were taken: what is printed of them, and what of the rest.
use Rattle.std.proofs.Common.{◌≡◌, ◌<◌, ◌≤◌, ◌+◌, ℕ, List, [], ◌++◌, length, take, drop, ap, arith, sym, subst, ◌∙◌, append-nil, append_assoc}
use Rattle.std.specs.Prelude.{if◌then◌else◌}
use Rattle.std.proofs.lemmas.List.{drop-drop, drop_all, length-drop}
use Rattle.event_lines.specs.Cut.{input_lines, is_blank_line}
use Rattle.line_clean.specs.declared.first_line.FirstLine.{FirstLine}
use Rattle.line_clean.specs.Lines.{clean_text, line_row}
use Rattle.line_clean.specs.inner.FirstLines.{IsFirstLine}
use Rattle.line_clean.specs.inner.Judging.{IsFirstBad}
use Rattle.line_clean.proofs.JudgingLemmas.{known_next, text_kept}

-- what was appended to a text, and what is printed of the rest, is what is printed of all
abbrev pub Told : List ℕ → List ℕ → List ℕ → ℕ → Type 0
Told start bytes text at = start ++ clean_text (input_lines bytes) ≡ text ++ clean_text (input_lines (drop at bytes))

-- some bytes more were taken
pub told_on : (start bytes old new : List ℕ) (at next : ℕ) → Told start bytes old at → old ++ clean_text (input_lines (drop at bytes)) ≡ new ++ clean_text (input_lines (drop next (drop at bytes))) → Told start bytes new (at + next)
told_on start bytes old new at next told more = told ∙ more ∙ ap (λ (xs : List ℕ). new ++ clean_text (input_lines xs)) (drop-drop next at bytes)

-- all were taken
pub told_all : (start bytes text : List ℕ) (at : ℕ) → length bytes ≤ at → Told start bytes text at → text ≡ start ++ clean_text (input_lines bytes)
told_all start bytes text at le told =
    let none : clean_text (input_lines (drop at bytes)) ≡ [] = ap (λ (xs : List ℕ). clean_text (input_lines xs)) (drop_all at bytes le) in
    sym (told ∙ ap (λ xs. text ++ xs) none ∙ append-nil text)

module _ (start bytes old : List ℕ) (at n bad : ℕ) (line : FirstLine) (is : IsFirstLine (drop at bytes) line) (known : IsFirstBad n bad (input_lines (drop at bytes))) (told : Told start bytes old at) where
  abbrev first : List ℕ
  first = take line.end (drop at bytes)

  -- the first line of the rest is good or blank
  pub line_told : (new : List ℕ) → n < bad → new ≡ old ++ (if is_blank_line first then [] else line_row first) → Told start bytes new (at + line.next)
  line_told new lt pushed =
      let row = if is_blank_line first then [] else line_row first in
      let later = clean_text (input_lines (drop line.next (drop at bytes))) in
      told_on start bytes old new at line.next told
      (ap (λ xs. old ++ xs) (text_kept (drop at bytes) line is n bad known lt) ∙ sym (append_assoc old row later) ∙ ap (λ xs. xs ++ later) (sym pushed))

  pub line_known : n < bad → at + line.next < length bytes → IsFirstBad (n + 1) bad (input_lines (drop (at + line.next) bytes))
  line_known lt some =
      subst (λ (xs : List ℕ). IsFirstBad (n + 1) bad (input_lines xs)) (drop-drop line.next at bytes)
      (known_next (drop at bytes) line is n bad known lt (omega (arith, length-drop line.next (drop at bytes), length-drop at bytes, some)))
