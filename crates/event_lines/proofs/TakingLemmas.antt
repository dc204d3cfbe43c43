-- An input that is taken in pieces.
use Rattle.std.proofs.Common.{◌≡◌, ℕ, ◌+◌, List, [], ◌∷◌, ◌++◌, length, true, Result, Ok, arith, sym, ap, subst, ◌∙◌, append_assoc, append-nil}
use Rattle.std.specs.Prelude.{◌==◌}
use Rattle.std.proofs.lemmas.List.{length-append, nil_from_length}
use Rattle.std.proofs.lemmas.Bool.{eqb-true}
use Rattle.event_lines.specs.declared.line.Line.{Line}
use Rattle.event_lines.specs.declared.line_error.LineError.{LineError}
use Rattle.event_lines.specs.Cut.{input_lines}
use Rattle.event_lines.specs.InputLines.{LineFault, both_said, lines_said_from, IsLineError}
use Rattle.event_lines.specs.LinesTaken.{LinesTaken, TakesBytes, said_with}
use Rattle.event_lines.specs.inner.MoreTaken.{IsBegun, with_later}
use Rattle.event_lines.proofs.PieceLemmas.{both_said-assoc, both_pieces, few_input_lines}

-- lines that end are read, and the bytes after them begin a new line
lines_ended : (said new : Result (List Line) LineFault) (n next : ℕ) (front later : List ℕ) → new ≡ both_said said (lines_said_from n (input_lines front)) → next ≡ n + length (input_lines front)
    → both_said new (lines_said_from next (input_lines later)) ≡ both_said said (lines_said_from n (input_lines (front ++ 10 ∷ later)))
lines_ended said new n next front later e is =
    ap (λ r. both_said r (lines_said_from next (input_lines later))) e ∙ sym (both_said-assoc said (lines_said_from n (input_lines front)) (lines_said_from next (input_lines later)))
    ∙ ap (λ k. both_said said (both_said (lines_said_from n (input_lines front)) (lines_said_from k (input_lines later)))) is ∙ ap (both_said said) (sym (both_pieces n front later))

-- bytes were taken that end lines
pub ends_lines : (old new : LinesTaken) (bytes front : List ℕ) → front ≡ old.rest ++ bytes → new.ended ≡ both_said old.ended (lines_said_from old.number (input_lines front))
    → old.number + length (input_lines front) ≡ new.number → new.rest ≡ [] → TakesBytes old (bytes ++ 10 ∷ []) new
ends_lines old new bytes front whole e is none = record {
  said = λ later.
      let joined : front ++ 10 ∷ later ≡ old.rest ++ ((bytes ++ 10 ∷ []) ++ later) =
      ap (λ xs. xs ++ 10 ∷ later) whole ∙ append_assoc old.rest bytes (10 ∷ later) ∙ ap (λ xs. old.rest ++ xs) (sym (append_assoc bytes (10 ∷ []) later)) in
      ap (λ xs. both_said new.ended (lines_said_from new.number (input_lines (xs ++ later)))) none
      ∙ lines_ended old.ended new.ended old.number new.number front later e (sym is)
      ∙ ap (λ xs. both_said old.ended (lines_said_from old.number (input_lines xs))) joined;
  room = omega (arith, is, few_input_lines front, ap length none, ap length whole ∙ length-append old.rest bytes, length-append bytes (10 ∷ []));
}

-- bytes are taken after others
pub takes_both : (a b c : LinesTaken) (xs ys bytes : List ℕ) → TakesBytes a xs b → TakesBytes b ys c → bytes ≡ xs ++ ys → TakesBytes a bytes c
takes_both a b c xs ys bytes h k joined = record {
  said = λ later. k.said later ∙ h.said (ys ++ later) ∙ ap (said_with a) (sym (append_assoc xs ys later) ∙ ap (λ zs. zs ++ later) (sym joined));
  room = omega (arith, h.room, k.room, ap length joined ∙ length-append xs ys);
}

-- a line feed is the end of what is before it
pub feed_between : (bytes front back : List ℕ) → bytes ≡ front ++ 10 ∷ back → bytes ≡ (front ++ 10 ∷ []) ++ back
feed_between bytes front back cut = cut ∙ sym (append_assoc front (10 ∷ []) back)

-- nothing more is taken
reading_with_none : (said : Result (List Line) LineFault) (n : ℕ) (rest : List ℕ) → both_said said (lines_said_from n (input_lines rest)) ≡ both_said said (lines_said_from n (input_lines (rest ++ [])))
reading_with_none said n rest = ap (λ xs. both_said said (lines_said_from n (input_lines xs))) (sym (append-nil rest))

pub finished_lines : (taken : LinesTaken) (v : List Line) → both_said taken.ended (lines_said_from taken.number (input_lines taken.rest)) ≡ Ok v → said_with taken [] ≡ Ok v
finished_lines taken v h = sym (reading_with_none taken.ended taken.number taken.rest) ∙ h

pub finished_error : (taken : LinesTaken) (e : LineError) → IsLineError (both_said taken.ended (lines_said_from taken.number (input_lines taken.rest))) e → IsLineError (said_with taken []) e
finished_error taken e h = subst (λ said. IsLineError said e) (reading_with_none taken.ended taken.number taken.rest) h

-- no byte is kept where their number is 0
pub nothing_kept : (rest : List ℕ) (count : ℕ) → length rest ≡ count → (count == 0) ≡ true → rest ≡ []
nothing_kept rest count is e = nil_from_length rest (is ∙ eqb-true count 0 e)

-- what a reader took that began where another stands was taken after what the other took
pub later_taken : (taken begun later : LinesTaken) (bytes : List ℕ) → IsBegun taken begun → TakesBytes begun bytes later → TakesBytes taken bytes (with_later taken later)
later_taken taken begun later bytes begins takes = record {
  said = λ more.
      sym (both_said-assoc taken.ended later.ended (lines_said_from later.number (input_lines (later.rest ++ more))))
      ∙ ap (both_said taken.ended) (takes.said more)
      ∙ begins.ended (lines_said_from begun.number (input_lines (begun.rest ++ (bytes ++ more))))
      ∙ ap (λ n. both_said taken.ended (lines_said_from n (input_lines (begun.rest ++ (bytes ++ more))))) begins.number
      ∙ ap (λ xs. both_said taken.ended (lines_said_from taken.number (input_lines (xs ++ (bytes ++ more))))) begins.rest;
  room = omega (arith, takes.room, begins.number, ap length begins.rest);
}
