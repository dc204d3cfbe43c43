-- The events of a good input have printable texts, and none is later than the latest time.
use Rattle.std.proofs.Common.{◌≡◌, ℕ, ◌*◌, ◌≤◌, ◌||◌, ◌&&◌, not, List, [], ◌∷◌, Bool, true, false, Option, Some, None, Result, Ok, Err, map, refl, subst, arith, codes, le_trans, mul-le-mul_left, true≢false}
use Rattle.std.specs.Prelude.{All, is_some, nat_lt, unwrap_or, if◌then◌else◌}
use Rattle.std.specs.List.{list_any}
use Rattle.std.specs.Option.{option_map_or}
use Rattle.std.specs.Result.{result_map_both}
use Rattle.std.specs.Str.{IsUtf8}
use Rattle.std.proofs.lemmas.Bool.{ltb-false, not-false, or_parts}
use Rattle.std.proofs.lemmas.List.Elements.{All-cons, All-head, All-map, All-nil, All-tail}
use Rattle.std.proofs.lemmas.Str.{is_utf8-from_IsUtf8}
use Rattle.event_lines.specs.Cut.{input_lines}
use Rattle.event_lines.specs.EventFaults.{event_line_fault, has_bad_text, has_wrong_kind, is_bad_text, is_out_of_range, lacks_member, optional_texts, required_texts, time_name}
use Rattle.event_lines.specs.InputLines.{LineFault, all_or_first_error, lines_said, numbered_lines, numbered_result}
use Rattle.event_lines.specs.LineResults.{control_line_result, event_line_result, json_value, line_event, line_result, object_result, value_result}
use Rattle.event_lines.specs.Commands.{command_result}
use Rattle.event_lines.specs.Members.{has_member, is_given, is_text_at, is_whole_at, number_at, text_at}
use Rattle.event_lines.specs.TimeUnits.{nanoseconds_in, time_unit_of}
use Rattle.event_lines.specs.declared.command.Command.{Command}
use Rattle.event_lines.specs.declared.line.Line.{Line}
use Rattle.event_lines.specs.declared.line.Line.TheVariants.{Control, Event}
use Rattle.event_lines.specs.declared.why.Why.{Why}
use Rattle.event_lines.specs.declared.why.Why.TheVariants.{BadText, Missing, NotJson, OutOfRange, WrongKind}
use Rattle.serde_json.specs.Data.{Data}
use Rattle.serde_json.specs.Find.{as_object}
use Rattle.trace_types.specs.Times.{latest_time}
use Rattle.trace_types.specs.declared.event.Event as events
use Rattle.trace_types.proofs.TruthLemmas.{four_fail}
use Rattle.certificate_laws.specs.Printable.{IsPrintableText}
use Rattle.certificate_laws.proofs.JsonLemmas.{IfThere, texts_utf8}

-- the request, the task and the name of the event are printable, and its time is bounded
pub record IsGoodEvent (e : events.Event) : Type 0 where
  pub request : IsPrintableText e.request
  pub task : IsPrintableText e.task
  pub event : IsPrintableText e.event
  pub timely : e.time ≤ latest_time

abbrev pub IsGoodLine : Line → Type 0
IsGoodLine (Event e) = IsGoodEvent e
IsGoodLine (Control line command) = Unit {0}

-- a value that is one has P
abbrev IfGood : {X E : Type 0} → (X → Type 0) → Result X E → Type 0
IfGood P (Ok x) = P x
IfGood P (Err e) = Unit {0}

-- ---- one event line

text_printable : (o : Option (List ℕ)) → is_some o ≡ true → option_map_or is_bad_text o false ≡ false → IfThere IsUtf8 o → IsPrintableText (unwrap_or o [])
text_printable None some good utf8 = absurd (cc some)
text_printable (Some s) some good utf8 =
    let valid = is_utf8-from_IsUtf8 s utf8 in
    λ i. if valid i && not (good i) then Some s else None

-- none of the four faults holds
none_holds : (a b c d : Bool) → (if a then Some Missing else (if b then Some WrongKind else (if c then Some OutOfRange else (if d then Some BadText else None)))) ≡ None → (b ≡ false) × (c ≡ false) × (d ≡ false)
none_holds true b c d h = absurd (cc h)
none_holds false true c d h = absurd (cc h)
none_holds false false true d h = absurd (cc h)
none_holds false false false true h = absurd (cc h)
none_holds false false false false h = (refl, refl, refl)

within : (unit most : ℕ) (number : Option ℕ) → unit * most ≤ latest_time → option_map_or (nat_lt most) number true ≡ false → unit * unwrap_or number 0 ≤ latest_time
within unit most None le out = absurd (true≢false out)
within unit most (Some t) le out = le_trans (mul-le-mul_left unit (ltb-false most t out)) le

bounded_by : (nanos : Bool) (d : Data) → is_given (codes "nanos") d ≡ nanos → is_out_of_range d ≡ false → nanoseconds_in (time_unit_of d) * unwrap_or (number_at (time_name d) d) 0 ≤ latest_time
bounded_by true d e out = rw e (within 1 4102444800000000000 (number_at (codes "nanos") d) (omega arith) (rw e at out))
bounded_by false d e out = rw e (within 1000 4102444800000000 (number_at (codes "time") d) (omega arith) (rw e at out))

-- so do the first four of six
six_fail : (a b c d e f : Bool) → (a || (b || (c || (d || (e || (f || false)))))) ≡ false → (a ≡ false) × (b ≡ false) × (c ≡ false) × (d ≡ false)
six_fail true b c d e f h = absurd (cc h)
six_fail false true c d e f h = absurd (cc h)
six_fail false false true d e f h = absurd (cc h)
six_fail false false false true e f h = absurd (cc h)
six_fail false false false false e f h = (refl, refl, refl, refl)

good_event : (n : ℕ) (d : Data) → ((name : List ℕ) → IfThere IsUtf8 (text_at name d)) → has_wrong_kind d ≡ false → is_out_of_range d ≡ false → has_bad_text d ≡ false → IsGoodEvent (line_event n d)
good_event n d utf8 kinds range texts =
    let required = (or_parts (list_any (λ name. not (is_text_at name d)) required_texts || not (is_whole_at (time_name d) d)) (list_any (λ name. is_given name d && not (is_text_at name d)) optional_texts) kinds).0 in
    let there = four_fail (not (is_text_at (codes "request") d)) (not (is_text_at (codes "machine") d)) (not (is_text_at (codes "task") d)) (not (is_text_at (codes "event") d))
    (or_parts (list_any (λ name. not (is_text_at name d)) required_texts) (not (is_whole_at (time_name d) d)) required).0 in
    let bad : List ℕ → Bool = λ name. option_map_or is_bad_text (text_at name d) false in
    let good = six_fail (bad (codes "request")) (bad (codes "machine")) (bad (codes "task")) (bad (codes "event")) (bad (codes "send")) (bad (codes "recv")) texts in
    record {
      request = text_printable (text_at (codes "request") d) (not-false (is_text_at (codes "request") d) there.0) good.0 (utf8 (codes "request"));
      task = text_printable (text_at (codes "task") d) (not-false (is_text_at (codes "task") d) there.2) good.2 (utf8 (codes "task"));
      event = text_printable (text_at (codes "event") d) (not-false (is_text_at (codes "event") d) there.3) good.3 (utf8 (codes "event"));
      timely = bounded_by (is_given (codes "nanos") d) d refl range;
    }

-- ---- one line

event_said : (n : ℕ) (d : Data) (fault : Option Why) → ((name : List ℕ) → IfThere IsUtf8 (text_at name d)) → event_line_fault d ≡ fault → IfGood IsGoodLine (option_map_or Err fault (Ok (Event (line_event n d))))
event_said n d (Some why) utf8 e = tt
event_said n d None utf8 e =
    let none = none_holds (lacks_member d) (has_wrong_kind d) (is_out_of_range d) (has_bad_text d) e in
    good_event n d utf8 none.0 none.1 none.2

control_said : (n : ℕ) (command : Result Command Why) → IfGood IsGoodLine (result_map_both (λ c. Control n c) (λ why. why) command)
control_said n (Ok command) = tt
control_said n (Err why) = tt

object_said : (control : Bool) (n : ℕ) (d : Data) → ((name : List ℕ) → IfThere IsUtf8 (text_at name d)) → IfGood IsGoodLine (if control then control_line_result n d else event_line_result n d)
object_said true n d utf8 = control_said n (command_result d)
object_said false n d utf8 = event_said n d (event_line_fault d) utf8 refl

value_said : (object : Bool) (n : ℕ) (d : Data) → ((name : List ℕ) → IfThere IsUtf8 (text_at name d)) → IfGood IsGoodLine (if object then object_result n d else Err NotJson)
value_said true n d utf8 = object_said (has_member (codes "do") d) n d utf8
value_said false n d utf8 = tt

line_said : (n : ℕ) (line : List ℕ) (value : Option Data) → json_value line ≡ value → IfGood IsGoodLine (option_map_or (value_result n) value (Err NotJson))
line_said n line None e = tt
line_said n line (Some d) e = value_said (is_some (as_object d)) n d (texts_utf8 line d e)

result_said : (n : ℕ) (result : Result Line Why) → IfGood IsGoodLine result → IfGood {E = LineFault} IsGoodLine (result_map_both (λ good. good) (λ (why : Why). record { line = n; why = why }) result)
result_said n (Ok line) h = h
result_said n (Err why) h = tt

numbered_good : (line : ℕ × List ℕ) → IfGood IsGoodLine (numbered_result line)
numbered_good line = result_said line.0 (line_result line.0 line.1) (line_said line.0 line.1 (json_value line.1) refl)

-- ---- all lines

pub mapped : {X E : Type 0} (P : X → Type 0) (x : X) (rest : Result (List X) E) (xs : List X) → P x → ((ys : List X) → rest ≡ Ok ys → All P ys) → result_map_both (λ ys. x ∷ ys) (λ e. e) rest ≡ Ok xs → All P xs
mapped P x (Err e) xs here more h = absurd (cc h)
mapped P x (Ok ys) xs here more h = let same : x ∷ ys ≡ xs = cc in subst (All P) same (All-cons P x ys here (more ys refl))

all_good : {X E : Type 0} (P : X → Type 0) (results : List (Result X E)) (xs : List X) → All (IfGood P) results → all_or_first_error results ≡ Ok xs → All P xs
all_good P [] xs h e = let same : [] ≡ xs = cc in subst (All P) same (All-nil P)
all_good P (Err fault ∷ results) xs h e = absurd (cc e)
all_good P (Ok x ∷ results) xs h e = mapped P x (all_or_first_error results) xs (All-head (IfGood P) (Ok x) results h) (λ ys said. all_good P results ys (All-tail (IfGood P) (Ok x) results h) said) e

pub lines_good : (input : List ℕ) (lines : List Line) → lines_said input ≡ Ok lines → All IsGoodLine lines
lines_good input lines said =
    let numbered : List (ℕ × List ℕ) = numbered_lines 1 (input_lines input) in
    all_good IsGoodLine (map numbered_result numbered) lines (All-map (IfGood IsGoodLine) numbered_result numbered (λ k d within. numbered_good _)) said
