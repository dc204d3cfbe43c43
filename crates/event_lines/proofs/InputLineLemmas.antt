-- What lines say, line after line.
use Rattle.std.proofs.Common.{◌≡◌, ℕ, ◌+◌, List, [], ◌∷◌, ◌++◌, map, Bool, true, false, Result, Ok, Err, refl, sym, ap, subst, ◌∙◌, append_assoc, if◌then◌else◌}
use Rattle.std.specs.Prelude.{IsOkAnd}
use Rattle.event_lines.specs.declared.line.Line.{Line}
use Rattle.event_lines.specs.declared.why.Why.{Why}
use Rattle.event_lines.specs.declared.line_error.LineError.{LineError}
use Rattle.event_lines.specs.declared.line_error.LineError.TheVariants.{Memory, Bad}
use Rattle.event_lines.specs.Cut.{is_blank_line}
use Rattle.event_lines.specs.LineResults.{line_result}
use Rattle.event_lines.specs.InputLines.{LineFault, numbered_lines, numbered_result, all_or_first_error, lines_said_from, both_said, IsLineError}

pub both_said-nil : (r : Result (List Line) LineFault) → both_said (Ok []) r ≡ r
both_said-nil (Ok xs) = refl
both_said-nil (Err e) = refl

module _ (said : ℕ × List ℕ → Result Line LineFault) where
  abbrev all_from : ℕ → List (List ℕ) → Result (List Line) LineFault
  all_from n lines = all_or_first_error (map said (numbered_lines n lines))

  all_from-cons : (n : ℕ) (line : List ℕ) (lines : List (List ℕ)) → all_from n (line ∷ lines) ≡ both_said (all_from n (line ∷ [])) (all_from (n + 1) lines)
  all_from-cons n line lines = by (is_blank_line line) (said (n, line)) (all_from (n + 1) lines) refl refl refl
    where
      by : (b : Bool) (one : Result Line LineFault) (rest : Result (List Line) LineFault) → is_blank_line line ≡ b → said (n, line) ≡ one → all_from (n + 1) lines ≡ rest
          → all_from n (line ∷ lines) ≡ both_said (all_from n (line ∷ [])) (all_from (n + 1) lines)
      by true one rest e f g = rw e (sym (both_said-nil (all_from (n + 1) lines)))
      by false (Err why) rest e f g = rw (e, f) refl
      by false (Ok x) (Ok xs) e f g = rw (e, f, g) refl
      by false (Ok x) (Err why) e f g = rw (e, f, g) refl

-- the first line and then the others
pub lines_said_from-cons : (n : ℕ) (line : List ℕ) (lines : List (List ℕ)) → lines_said_from n (line ∷ lines) ≡ both_said (lines_said_from n (line ∷ [])) (lines_said_from (n + 1) lines)
lines_said_from-cons n line lines = all_from-cons numbered_result n line lines

-- a good line, or the fault of a bad one
abbrev pub one_or_fault : ℕ → Result Line Why → Result (List Line) LineFault
one_or_fault n (Ok line) = Ok (line ∷ [])
one_or_fault n (Err why) = Err (record { line = n; why = why })

-- what one line adds: nothing where it is blank
abbrev pub line_addition : ℕ → List ℕ → Result (List Line) LineFault
line_addition n line = if is_blank_line line then Ok [] else one_or_fault n (line_result n line)

pub lines_said_from-one : (n : ℕ) (line : List ℕ) → lines_said_from n (line ∷ []) ≡ line_addition n line
lines_said_from-one n line = by (is_blank_line line) (line_result n line) refl refl
  where
    by : (b : Bool) (one : Result Line Why) → is_blank_line line ≡ b → line_result n line ≡ one → lines_said_from n (line ∷ []) ≡ line_addition n line
    by true one e f = rw e refl
    by false (Ok x) e f = rw (e, f) refl
    by false (Err why) e f = rw (e, f) refl

-- a good line was appended that is not blank
pub line_appended : (n : ℕ) (line : List ℕ) (old new : List Line) → is_blank_line line ≡ false → IsOkAnd (line_result n line) (λ said. new ≡ old ++ said ∷ [])
    → IsOkAnd (lines_said_from n (line ∷ [])) (λ said. new ≡ old ++ said)
line_appended n line old new full h =
    subst (λ r. IsOkAnd r (λ said. new ≡ old ++ said)) (sym (lines_said_from-one n line ∙ ap (λ b. if b then Ok [] else one_or_fault n (line_result n line)) full)) (by (line_result n line) h)
  where
    by : (one : Result Line Why) → IsOkAnd one (λ said. new ≡ old ++ said ∷ []) → IsOkAnd (one_or_fault n one) (λ said. new ≡ old ++ said)
    by (Ok x) g = g
    by (Err why) g = g

joins : (a b : Result (List Line) LineFault) (old new : List Line) → IsOkAnd a (λ said. new ≡ old ++ said) → both_said (Ok old) (both_said a b) ≡ both_said (Ok new) b
joins (Ok xs) (Ok ys) old new h = ap Ok (sym (append_assoc old xs ys) ∙ ap (λ zs. zs ++ ys) (sym h))
joins (Ok xs) (Err e) old new h = refl
joins (Err e) b old new h = absurd h

tells : (a b r : Result (List Line) LineFault) (old : List Line) (e : LineError) → IsLineError a e → both_said (Ok old) (both_said a b) ≡ r → IsLineError r e
tells a b r old Memory h k = tt
tells a b r old (Bad n why) h k = sym k ∙ ap (λ x. both_said (Ok old) (both_said x b)) h

module _ (n : ℕ) (line : List ℕ) (lines parts : List (List ℕ)) (old : List Line) (all : Result (List Line) LineFault) (cut : parts ≡ line ∷ lines)
    (told : both_said (Ok old) (lines_said_from n parts) ≡ all) where
  by_first : both_said (Ok old) (both_said (lines_said_from n (line ∷ [])) (lines_said_from (n + 1) lines)) ≡ all
  by_first = ap (both_said (Ok old)) (sym (lines_said_from-cons n line lines)) ∙ ap (λ ls. both_said (Ok old) (lines_said_from n ls)) (sym cut) ∙ told

  -- what the first line says was added to the lines so far
  pub first_added : (new : List Line) → IsOkAnd (lines_said_from n (line ∷ [])) (λ said. new ≡ old ++ said) → both_said (Ok new) (lines_said_from (n + 1) lines) ≡ all
  first_added new added = sym (joins (lines_said_from n (line ∷ [])) (lines_said_from (n + 1) lines) old new added) ∙ by_first

  -- the first line is bad, so it is the first bad line of all
  pub first_bad : (e : LineError) → IsLineError (lines_said_from n (line ∷ [])) e → IsLineError all e
  first_bad e bad = tells (lines_said_from n (line ∷ [])) (lines_said_from (n + 1) lines) all old e bad by_first
