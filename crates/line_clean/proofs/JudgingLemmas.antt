-- Which line is the first bad one, by what a reading of all lines says.
use Rattle.std.proofs.Common.{◌≡◌, ◌≤◌, ◌<◌, ◌+◌, ◌||◌, ◌&&◌, not, ℕ, List, [], ◌∷◌, ◌++◌, Bool, true, false, Option, Some, None, Result, Ok, Err, length, ap, arith, refl, sym, subst, ◌∙◌, inl, inr, drop, take, codes}
use Rattle.std.specs.Prelude.{if◌then◌else◌, is_ok, is_some, nat_le}
use Rattle.std.specs.Option.{option_map_or}
use Rattle.std.specs.Result.{result_map_both}
use Rattle.std.proofs.lemmas.Bool.{le-leb}
use Rattle.std.proofs.lemmas.List.{append-nil, drop_all, length-drop}
use Rattle.serde_json.specs.Data.{Data}
use Rattle.serde_json.specs.Find.{as_object}
use Rattle.event_lines.specs.Cut.{input_lines, is_blank_line}
use Rattle.event_lines.specs.Commands.{command_result}
use Rattle.event_lines.specs.EventFaults.{event_line_fault}
use Rattle.event_lines.specs.InputLines.{LineFault, lines_said_from}
use Rattle.event_lines.specs.LineResults.{control_line_result, event_line_result, json_value, line_event, line_result, object_result, value_result}
use Rattle.event_lines.specs.Members.{has_member}
use Rattle.event_lines.specs.declared.command.Command.{Command}
use Rattle.event_lines.specs.declared.line.Line.{Line}
use Rattle.event_lines.specs.declared.line.Line.TheVariants.{Control, Event}
use Rattle.event_lines.specs.declared.why.Why.{Why}
use Rattle.event_lines.specs.declared.why.Why.TheVariants.{NotJson}
use Rattle.mystery_io.specs.Input.{input_limit}
use Rattle.trace_types.proofs.TruthLemmas.{or_true}
use Rattle.line_clean.specs.declared.first_line.FirstLine.{FirstLine}
use Rattle.line_clean.specs.Lines.{clean_text, is_good, line_row}
use Rattle.line_clean.specs.inner.FirstLines.{IsFirstLine}
use Rattle.line_clean.specs.inner.Judging.{IsFirstBad}
use Rattle.line_clean.proofs.GoodLemmas.{clean_append, clean_kept}
use Rattle.line_clean.proofs.LineLemmas.{AreShort}

-- ---- whether a line is bad does not depend on its number

control_ok : (n m : ℕ) (command : Result Command Why) → is_ok {T = Line} {E = Why} (result_map_both (λ c. Control n c) (λ why. why) command) ≡ is_ok {T = Line} {E = Why} (result_map_both (λ c. Control m c) (λ why. why) command)
control_ok n m (Ok command) = refl
control_ok n m (Err why) = refl

event_ok : (n m : ℕ) (d : Data) (fault : Option Why) → is_ok {T = Line} {E = Why} (option_map_or Err fault (Ok (Event (line_event n d)))) ≡ is_ok {T = Line} {E = Why} (option_map_or Err fault (Ok (Event (line_event m d))))
event_ok n m d (Some why) = refl
event_ok n m d None = refl

object_ok : (n m : ℕ) (d : Data) (control : Bool) → is_ok (if control then control_line_result n d else event_line_result n d) ≡ is_ok (if control then control_line_result m d else event_line_result m d)
object_ok n m d true = control_ok n m (command_result d)
object_ok n m d false = event_ok n m d (event_line_fault d)

value_ok : (n m : ℕ) (d : Data) (object : Bool) → is_ok {T = Line} {E = Why} (if object then object_result n d else Err NotJson) ≡ is_ok {T = Line} {E = Why} (if object then object_result m d else Err NotJson)
value_ok n m d true = object_ok n m d (has_member (codes "do") d)
value_ok n m d false = refl

line_ok : (n m : ℕ) (value : Option Data) → is_ok {T = Line} {E = Why} (option_map_or (value_result n) value (Err NotJson)) ≡ is_ok {T = Line} {E = Why} (option_map_or (value_result m) value (Err NotJson))
line_ok n m None = refl
line_ok n m (Some d) = value_ok n m d (is_some (as_object d))

pub number_is_free : (n m : ℕ) (line : List ℕ) → is_ok (line_result n line) ≡ is_ok (line_result m line)
number_is_free n m line = line_ok n m (json_value line)

-- ---- one line

good_by : (b le ok : Bool) → b ≡ false → le ≡ true → ok ≡ true → (not b && (le && ok)) ≡ true
good_by b le ok p q r = rw (p, q, r) refl

bad_by : (b le ok : Bool) → ok ≡ false → (not b && (le && ok)) ≡ false
bad_by true le ok r = refl
bad_by false true ok r = r
bad_by false false ok r = refl

pub good_of : (n : ℕ) (line : List ℕ) (x : Line) → is_blank_line line ≡ false → length line ≤ input_limit → line_result n line ≡ Ok x → is_good line ≡ true
good_of n line x blank short said = good_by (is_blank_line line) (nat_le (length line) input_limit) (is_ok (line_result 1 line)) blank (le-leb (length line) input_limit short) (number_is_free 1 n line ∙ ap is_ok said)

pub bad_of : (n : ℕ) (line : List ℕ) (why : Why) → line_result n line ≡ Err why → is_good line ≡ false
bad_of n line why said = bad_by (is_blank_line line) (nat_le (length line) input_limit) (is_ok (line_result 1 line)) (number_is_free 1 n line ∙ ap is_ok said)

kept_blank : (line : List ℕ) → is_blank_line line ≡ true → (is_blank_line line || is_good line) ≡ true
kept_blank line e = ap (λ (b : Bool). b || is_good line) e

kept_good : (line : List ℕ) → is_good line ≡ true → (is_blank_line line || is_good line) ≡ true
kept_good line e = ap (λ (b : Bool). is_blank_line line || b) e ∙ or_true (is_blank_line line)

-- ---- what lines say, and the first of them

pub said_blank : (n : ℕ) (line : List ℕ) (lines : List (List ℕ)) → is_blank_line line ≡ true → lines_said_from n (line ∷ lines) ≡ lines_said_from (n + 1) lines
said_blank n line lines e = rw e refl

pub said_good : (n : ℕ) (line : List ℕ) (lines : List (List ℕ)) (x : Line) → is_blank_line line ≡ false → line_result n line ≡ Ok x → lines_said_from n (line ∷ lines) ≡ result_map_both (λ xs. x ∷ xs) (λ e. e) (lines_said_from (n + 1) lines)
said_good n line lines x e f = rw (e, f) refl

said_bad : (n : ℕ) (line : List ℕ) (lines : List (List ℕ)) (why : Why) → is_blank_line line ≡ false → line_result n line ≡ Err why → lines_said_from n (line ∷ lines) ≡ Err (record { line = n; why = why })
said_bad n line lines why e f = rw (e, f) refl

-- ---- all lines are good or blank

good_tail : (n bad : ℕ) (line : List ℕ) (lines : List (List ℕ)) (x : Line) (v : List Line) (t : Result (List Line) LineFault) → lines_said_from (n + 1) lines ≡ t → result_map_both (λ xs. x ∷ xs) (λ e. e) t ≡ Ok v → ((w : List Line) → lines_said_from (n + 1) lines ≡ Ok w → IsFirstBad (n + 1) bad lines) → IsFirstBad (n + 1) bad lines
good_tail n bad line lines x v (Ok w) is h later = later w is
good_tail n bad line lines x v (Err fault) is h later = absurd (cc h)

good_first : (n bad : ℕ) (line : List ℕ) (lines : List (List ℕ)) (v : List Line) (b : Bool) (r : Result Line Why) → is_blank_line line ≡ b → line_result n line ≡ r → lines_said_from n (line ∷ lines) ≡ Ok v → n < bad → length line ≤ input_limit → ((w : List Line) → lines_said_from (n + 1) lines ≡ Ok w → IsFirstBad (n + 1) bad lines) → IsFirstBad n bad (line ∷ lines)
good_first n bad line lines v true r e f h lt short later = inr (lt, kept_blank line e, later v (sym (said_blank n line lines e) ∙ h))
good_first n bad line lines v false (Ok x) e f h lt short later = inr (lt, kept_good line (good_of n line x e short f), good_tail n bad line lines x v (lines_said_from (n + 1) lines) refl (sym (said_good n line lines x e f) ∙ h) later)
good_first n bad line lines v false (Err why) e f h lt short later = let g : Err (record { line = n; why = why }) ≡ Ok v = sym (said_bad n line lines why e f) ∙ h in absurd (cc g)

pub none_bad : (n bad : ℕ) (lines : List (List ℕ)) (v : List Line) → lines_said_from n lines ≡ Ok v → n + length lines ≤ bad → AreShort input_limit lines → IsFirstBad n bad lines
none_bad n bad [] v h le short = tt
none_bad n bad (line ∷ lines) v h le short =
    good_first n bad line lines v (is_blank_line line) (line_result n line) refl refl h (omega (arith, le)) short.0 (λ w is. none_bad (n + 1) bad lines w is (omega (arith, le)) short.1)

-- ---- one is bad

record Bad (n : ℕ) (fault : LineFault) (lines : List (List ℕ)) : Type 0 where
  pub first : IsFirstBad n fault.line lines
  pub least : n ≤ fault.line

bad_tail : (n : ℕ) (line : List ℕ) (lines : List (List ℕ)) (x : Line) (fault : LineFault) (t : Result (List Line) LineFault) → lines_said_from (n + 1) lines ≡ t → result_map_both (λ xs. x ∷ xs) (λ e. e) t ≡ Err fault → ((f : LineFault) → lines_said_from (n + 1) lines ≡ Err f → Bad (n + 1) f lines) → Bad (n + 1) fault lines
bad_tail n line lines x fault (Ok w) is h later = absurd (cc h)
bad_tail n line lines x fault (Err f) is h later = let same : f ≡ fault = cc in subst (λ (k : LineFault). Bad (n + 1) k lines) same (later f is)

bad_next : (n : ℕ) (fault : LineFault) (line : List ℕ) (lines : List (List ℕ)) → (is_blank_line line || is_good line) ≡ true → Bad (n + 1) fault lines → Bad n fault (line ∷ lines)
bad_next n fault line lines kept h = record { first = inr (omega (arith, h.least), kept, h.first); least = omega (arith, h.least) }

bad_first : (n : ℕ) (line : List ℕ) (lines : List (List ℕ)) (fault : LineFault) (b : Bool) (r : Result Line Why) → is_blank_line line ≡ b → line_result n line ≡ r → lines_said_from n (line ∷ lines) ≡ Err fault → length line ≤ input_limit → ((f : LineFault) → lines_said_from (n + 1) lines ≡ Err f → Bad (n + 1) f lines) → Bad n fault (line ∷ lines)
bad_first n line lines fault true r e f h short later = bad_next n fault line lines (kept_blank line e) (later fault (sym (said_blank n line lines e) ∙ h))
bad_first n line lines fault false (Ok x) e f h short later = bad_next n fault line lines (kept_good line (good_of n line x e short f)) (bad_tail n line lines x fault (lines_said_from (n + 1) lines) refl (sym (said_good n line lines x e f) ∙ h) later)
bad_first n line lines fault false (Err why) e f h short later =
    let g : Err (record { line = n; why = why }) ≡ Err fault = sym (said_bad n line lines why e f) ∙ h in
    let same : record { line = n; why = why } ≡ fault = cc in
    let at : n ≡ fault.line = ap (λ (k : LineFault). k.line) same in
    record { first = inl (at, bad_of n line why f); least = omega (arith, at) }

one_bad_at : (n : ℕ) (lines : List (List ℕ)) (fault : LineFault) → lines_said_from n lines ≡ Err fault → AreShort input_limit lines → Bad n fault lines
one_bad_at n [] fault h short = absurd (cc h)
one_bad_at n (line ∷ lines) fault h short = bad_first n line lines fault (is_blank_line line) (line_result n line) refl refl h short.0 (λ f is. one_bad_at (n + 1) lines f is short.1)

pub one_bad : (n : ℕ) (lines : List (List ℕ)) (line : ℕ) (why : Why) → lines_said_from n lines ≡ Err (record { line = line; why = why }) → AreShort input_limit lines → IsFirstBad n line lines
one_bad n lines line why h short = (one_bad_at n lines (record { line = line; why = why }) h short).first

-- ---- the first line of bytes, by which line is the first bad one

module _ (n bad : ℕ) (line : List ℕ) (lines : List (List ℕ)) (h : IsFirstBad n bad (line ∷ lines)) where
  first_kept : n < bad → (is_blank_line line || is_good line) ≡ true
  first_kept lt = elim h [
    | inl here ↦ absurd (omega (arith, here.0, lt))
    | inr there ↦ there.1
  ]

  next_bad : n < bad → IsFirstBad (n + 1) bad lines
  next_bad lt = elim h [
    | inl here ↦ absurd (omega (arith, here.0, lt))
    | inr there ↦ there.2
  ]

module _ (bytes : List ℕ) (line : FirstLine) (is : IsFirstLine bytes line) (n bad : ℕ) (h : IsFirstBad n bad (input_lines bytes)) where
  abbrev first : List ℕ
  first = take line.end bytes

  abbrev later : List (List ℕ)
  later = input_lines (drop line.next bytes)

  -- nothing is printed of what stands behind the last line
  nothing : line.next ≡ length bytes → clean_text later ≡ []
  nothing all = ap (λ (xs : List ℕ). clean_text (input_lines xs)) (drop_all line.next bytes (omega (arith, all)))

  -- what is printed of the first line and then of the later ones
  first_then_later : clean_text (input_lines bytes) ≡ clean_text (first ∷ []) ++ clean_text later
  first_then_later = elim is.lines [
    | inl one ↦ ap clean_text one.0 ∙ sym (ap (λ (xs : List ℕ). clean_text (first ∷ []) ++ xs) (nothing one.1) ∙ append-nil (clean_text (first ∷ [])))
    | inr more ↦ ap clean_text more ∙ clean_append (first ∷ []) later
  ]

  first_bad_of : (lines : List (List ℕ)) × IsFirstBad n bad (first ∷ lines)
  first_bad_of = elim is.lines [
    | inl one ↦ ([], subst (IsFirstBad n bad) one.0 h)
    | inr more ↦ (later, subst (IsFirstBad n bad) more h)
  ]

  pub text_kept : n < bad → clean_text (input_lines bytes) ≡ (if is_blank_line first then [] else line_row first) ++ clean_text later
  text_kept lt =
      let kept = first_kept n bad first first_bad_of.0 first_bad_of.1 lt in
      first_then_later ∙ ap (λ xs. xs ++ clean_text later) (clean_kept first [] kept ∙ append-nil (if is_blank_line first then [] else line_row first))

  pub known_next : n < bad → 0 < length (drop line.next bytes) → IsFirstBad (n + 1) bad later
  known_next lt some = elim is.lines [
    | inl one ↦ absurd (omega (arith, one.1, length-drop line.next bytes, some))
    | inr more ↦ next_bad n bad first later (subst (IsFirstBad n bad) more h) lt
  ]
