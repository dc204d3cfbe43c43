-- Pieces of a file, and what is written of them.
use Rattle.std.proofs.Common.{◌≡◌, ◌+◌, ℕ, List, [], ◌++◌, Option, min, length, take, ap, arith, refl, sym, ◌∙◌, append-nil, append_assoc}
use Rattle.std.specs.Io.KnownBytes.{append_known}
use Rattle.std.proofs.Math.Seq.{take-append-add}
use Rattle.std.proofs.lemmas.List.{take-append-le, take_at, take_min}
use Rattle.event_lines.specs.Cut.{input_lines}
use Rattle.mystery_io.specs.Prefixes.{AppendsPrefix}
use Rattle.mystery_io.proofs.KnownLemmas.{known_append_twice, append_nothing}
use Rattle.line_clean.specs.declared.carry.Carry.{Carry}
use Rattle.line_clean.specs.Lines.{clean_text}
use Rattle.line_clean.specs.inner.Carrying.{Passes, text_with}
use Rattle.line_clean.specs.inner.Steps.{Carries}

-- what was written is a prefix of a text that begins with it
pub prefix_is : (start now : Option (List ℕ)) (sent rest text : List ℕ) → now ≡ append_known start sent → text ≡ sent ++ rest → AppendsPrefix start now text
prefix_is start now sent rest text written is = record {
  count = length sent;
  appended = written ∙ ap (append_known start) (sym (ap (take (length sent)) is ∙ take_at sent rest (length sent) refl));
}

-- a text was written, and then a prefix of the next
pub prefix_on : (start mid now : Option (List ℕ)) (sent next rest text : List ℕ) → mid ≡ append_known start sent → AppendsPrefix mid now next → text ≡ sent ++ (next ++ rest) → AppendsPrefix start now text
prefix_on start mid now sent next rest text written h is =
    let few = min h.count (length next) in
    let cut : take few (next ++ rest) ≡ take h.count next = take-append-le few next rest (omega arith) ∙ take_min h.count next in
    record {
      count = length sent + few;
      appended = h.appended ∙ ap (λ w. append_known w (take h.count next)) written ∙ known_append_twice start sent (take h.count next)
          ∙ ap (append_known start) (sym (ap (take (length sent + few)) is ∙ take-append-add sent (next ++ rest) few ∙ ap (λ xs. sent ++ xs) cut));
    }

-- before the first byte of a file
pub carries_none : (w : Option (List ℕ)) (carry : Carry) → ((later : List ℕ) → text_with carry later ≡ clean_text (input_lines later)) → Carries w w [] carry
carries_none w carry with = record {
  sent = [];
  written = sym (append_nothing w);
  told = λ later. sym (with later);
}

module _ (start mid : Option (List ℕ)) (bytes : List ℕ) (carry : Carry) (h : Carries start mid bytes carry) where
  -- what is printed of the file so far
  so_far : clean_text (input_lines bytes) ≡ h.sent ++ text_with carry []
  so_far = ap (λ (xs : List ℕ). clean_text (input_lines xs)) (sym (append-nil bytes)) ∙ h.told []

  -- nothing more was written
  pub carries_cut : AppendsPrefix start mid (clean_text (input_lines bytes))
  carries_cut = prefix_is start mid h.sent (text_with carry []) (clean_text (input_lines bytes)) h.written so_far

  pub carries_cut_at : (piece : List ℕ) → AppendsPrefix start mid (clean_text (input_lines (bytes ++ piece)))
  carries_cut_at piece = prefix_is start mid h.sent (text_with carry piece) (clean_text (input_lines (bytes ++ piece))) h.written (h.told piece)

  module _ (now : Option (List ℕ)) (piece text : List ℕ) (new : Carry) (passes : Passes [] carry piece text new) where
    pub carries_on : now ≡ append_known mid text → Carries start now (bytes ++ piece) new
    carries_on written = record {
      sent = h.sent ++ text;
      written = written ∙ ap (λ w. append_known w text) h.written ∙ known_append_twice start h.sent text;
      told = λ later.
          ap (λ (xs : List ℕ). clean_text (input_lines xs)) (append_assoc bytes piece later) ∙ h.told (piece ++ later) ∙ ap (λ xs. h.sent ++ xs) (passes later)
          ∙ sym (append_assoc h.sent text (text_with new later));
    }

    pub prefix_of_piece : AppendsPrefix mid now text → AppendsPrefix start now (clean_text (input_lines (bytes ++ piece)))
    prefix_of_piece cut =
        prefix_on start mid now h.sent text (text_with new []) (clean_text (input_lines (bytes ++ piece))) h.written cut
        (h.told piece ∙ ap (λ (xs : List ℕ). h.sent ++ text_with carry xs) (sym (append-nil piece)) ∙ ap (λ xs. h.sent ++ xs) (passes []))

  -- the last line of the file was written
  module _ (now : Option (List ℕ)) (text : List ℕ) (is : text ≡ text_with carry []) where
    pub carries_end : now ≡ append_known mid text → now ≡ append_known start (clean_text (input_lines bytes))
    carries_end written = written ∙ ap (λ w. append_known w text) h.written ∙ known_append_twice start h.sent text ∙ ap (append_known start) (ap (λ xs. h.sent ++ xs) is ∙ sym so_far)

    pub prefix_of_end : AppendsPrefix mid now text → AppendsPrefix start now (clean_text (input_lines bytes))
    prefix_of_end cut = prefix_on start mid now h.sent text [] (clean_text (input_lines bytes)) h.written cut (so_far ∙ ap (λ xs. h.sent ++ xs) (sym is ∙ sym (append-nil text)))
