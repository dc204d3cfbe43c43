-- Names that look numbered.
use Rattle.std.proofs.Common.{◌≡◌, ℕ, ◌+◌, ◌<◌, ◌≤◌, ◌&&◌, ◌||◌, List, Bool, true, false, drop, length, get_or, sym, ap, ◌∙◌}
use Rattle.std.proofs.lemmas.List.{drop_all, drop_more}
use Rattle.task_pieces.specs.PieceNames.{is_number_sign}
use Rattle.span_names.specs.Names.{is_numbering, looks_numbered}

-- the test at a place
abbrev pub at_place : List ℕ → ℕ → Bool
at_place text at = is_number_sign (get_or text at 0) && is_numbering (drop (at + 1) text)

pub looks_at : (text : List ℕ) (at : ℕ) → at < length text → looks_numbered (drop at text) ≡ (at_place text at || looks_numbered (drop (at + 1) text))
looks_at text at lt = ap looks_numbered (drop_more text at 0 lt)

pub looks_here : (text : List ℕ) (at : ℕ) → at < length text → looks_numbered (drop at text) ≡ looks_numbered text → at_place text at ≡ true → looks_numbered text ≡ true
looks_here text at lt h e = sym h ∙ looks_at text at lt ∙ ap (λ b. b || looks_numbered (drop (at + 1) text)) e

pub looks_on : (text : List ℕ) (at : ℕ) → at < length text → looks_numbered (drop at text) ≡ looks_numbered text → at_place text at ≡ false → looks_numbered (drop (at + 1) text) ≡ looks_numbered text
looks_on text at lt h e = sym (looks_at text at lt ∙ ap (λ b. b || looks_numbered (drop (at + 1) text)) e) ∙ h

pub looks_no : (text : List ℕ) (at : ℕ) → length text ≤ at → looks_numbered (drop at text) ≡ looks_numbered text → looks_numbered text ≡ false
looks_no text at past h = sym h ∙ ap looks_numbered (drop_all at text past)
