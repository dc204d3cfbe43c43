-- The lines that an input without a bad line says are good.
use Rattle.std.proofs.Common.{◌≡◌, ℕ, ◌||◌, ◌&&◌, not, ◌+◌, List, [], ◌∷◌, ◌++◌, Bool, true, false, Option, Some, None, Result, Ok, Err, map, refl, sym, subst, ◌∙◌, codes, true≢false}
use Rattle.std.specs.Prelude.{All, is_some, unwrap_or, if◌then◌else◌}
use Rattle.std.specs.List.{list_any}
use Rattle.std.specs.Option.{option_map_or}
use Rattle.std.specs.Result.{result_map_both}
use Rattle.std.specs.Str.{IsUtf8}
use Rattle.std.proofs.lemmas.Bool.{not-false, or_parts}
use Rattle.std.proofs.lemmas.List.Elements.{All-append, All-cons, All-head, All-map, All-nil, All-tail}
use Rattle.event_lines.specs.Cut.{input_lines}
use Rattle.event_lines.specs.Commands.{command_result}
use Rattle.event_lines.specs.EventFaults.{event_line_fault, has_bad_text, has_wrong_kind, is_bad_text, is_out_of_range, lacks_member, optional_texts, required_texts, time_name}
use Rattle.event_lines.specs.GoodLines.{IsLimited, IsTimely}
use Rattle.event_lines.specs.InputLines.{LineFault, all_or_first_error, lines_said, numbered_lines, numbered_result}
use Rattle.event_lines.specs.LineResults.{control_line_result, event_line_result, json_value, line_event, line_result, object_result, value_result}
use Rattle.event_lines.specs.Members.{has_member, is_given, is_text_at, is_whole_at, text_at}
use Rattle.event_lines.specs.declared.command.Command.{Command}
use Rattle.event_lines.specs.declared.line.Line.{Line}
use Rattle.event_lines.specs.declared.line.Line.TheVariants.{Control, Event}
use Rattle.event_lines.specs.declared.why.Why.{Why}
use Rattle.event_lines.specs.declared.why.Why.TheVariants.{BadText, Missing, NotJson, OutOfRange, WrongKind}
use Rattle.event_lines.proofs.GoodLineLemmas.{all_limited, all_timely}
use Rattle.serde_json.specs.Data.{Data}
use Rattle.serde_json.specs.Find.{as_object}
use Rattle.trace_types.specs.declared.event.Event as events
use Rattle.import_run.specs.Inputs.{FileFault, files_said_from, said_after}
use Rattle.certificate_laws.proofs.JsonLemmas.{IfThere, texts_utf8}
use Rattle.trace_types.proofs.TruthLemmas.{four_fail}
use Rattle.certificate_laws.proofs.EventLemmas.{mapped}
use Rattle.reading_laws.specs.Readings.{IsGoodLine, IsGoodMessage, IsGoodText}

-- all texts of the event are good
record HasGoodTexts (e : events.Event) : Type 0 where
  pub request : IsGoodText e.request
  pub machine : IsGoodText e.machine
  pub task : IsGoodText e.task
  pub event : IsGoodText e.event
  pub send : IsGoodMessage e.send
  pub recv : IsGoodMessage e.recv

abbrev IsTexted : Line → Type 0
IsTexted (Event e) = HasGoodTexts e
IsTexted (Control line command) = Unit {0}

-- a value that is one has P
abbrev IfOne : {X E : Type 0} → (X → Type 0) → Result X E → Type 0
IfOne P (Ok x) = P x
IfOne P (Err e) = Unit {0}

-- ---- one event line

good_text : (o : Option (List ℕ)) → is_some o ≡ true → option_map_or is_bad_text o false ≡ false → IfThere IsUtf8 o → IsGoodText (unwrap_or o [])
good_text None some good utf8 = absurd (true≢false (sym some))
good_text (Some s) some good utf8 = record { utf8 = utf8; good = good }

good_message : (o : Option (List ℕ)) → option_map_or is_bad_text o false ≡ false → IfThere IsUtf8 o → IsGoodMessage o
good_message None good utf8 = tt
good_message (Some s) good utf8 = record { utf8 = utf8; good = good }

-- none of the four faults holds
none_holds : (a b c d : Bool) → (if a then Some Missing else (if b then Some WrongKind else (if c then Some OutOfRange else (if d then Some BadText else None)))) ≡ None → (b ≡ false) × (d ≡ false)
none_holds true b c d h = absurd (cc h)
none_holds false true c d h = absurd (cc h)
none_holds false false true d h = absurd (cc h)
none_holds false false false true h = absurd (cc h)
none_holds false false false false h = (refl, refl)

-- so does each of six
six_fail : (a b c d e f : Bool) → (a || (b || (c || (d || (e || (f || false)))))) ≡ false → (a ≡ false) × (b ≡ false) × (c ≡ false) × (d ≡ false) × (e ≡ false) × (f ≡ false)
six_fail true b c d e f h = absurd (cc h)
six_fail false true c d e f h = absurd (cc h)
six_fail false false true d e f h = absurd (cc h)
six_fail false false false true e f h = absurd (cc h)
six_fail false false false false true f h = absurd (cc h)
six_fail false false false false false true h = absurd (cc h)
six_fail false false false false false false h = (refl, refl, refl, refl, refl, refl)

texted_event : (n : ℕ) (d : Data) → ((name : List ℕ) → IfThere IsUtf8 (text_at name d)) → has_wrong_kind d ≡ false → has_bad_text d ≡ false → HasGoodTexts (line_event n d)
texted_event n d utf8 kinds texts =
    let required = (or_parts (list_any (λ name. not (is_text_at name d)) required_texts || not (is_whole_at (time_name d) d)) (list_any (λ name. is_given name d && not (is_text_at name d)) optional_texts) kinds).0 in
    let there = four_fail (not (is_text_at (codes "request") d)) (not (is_text_at (codes "machine") d)) (not (is_text_at (codes "task") d)) (not (is_text_at (codes "event") d))
    (or_parts (list_any (λ name. not (is_text_at name d)) required_texts) (not (is_whole_at (time_name d) d)) required).0 in
    let bad : List ℕ → Bool = λ name. option_map_or is_bad_text (text_at name d) false in
    let good = six_fail (bad (codes "request")) (bad (codes "machine")) (bad (codes "task")) (bad (codes "event")) (bad (codes "send")) (bad (codes "recv")) texts in
    record {
      request = good_text (text_at (codes "request") d) (not-false (is_text_at (codes "request") d) there.0) good.0 (utf8 (codes "request"));
      machine = good_text (text_at (codes "machine") d) (not-false (is_text_at (codes "machine") d) there.1) good.1 (utf8 (codes "machine"));
      task = good_text (text_at (codes "task") d) (not-false (is_text_at (codes "task") d) there.2) good.2 (utf8 (codes "task"));
      event = good_text (text_at (codes "event") d) (not-false (is_text_at (codes "event") d) there.3) good.3 (utf8 (codes "event"));
      send = good_message (text_at (codes "send") d) good.4 (utf8 (codes "send"));
      recv = good_message (text_at (codes "recv") d) good.5 (utf8 (codes "recv"));
    }

-- ---- one line

event_said : (n : ℕ) (d : Data) (fault : Option Why) → ((name : List ℕ) → IfThere IsUtf8 (text_at name d)) → event_line_fault d ≡ fault → IfOne IsTexted (option_map_or Err fault (Ok (Event (line_event n d))))
event_said n d (Some why) utf8 e = tt
event_said n d None utf8 e =
    let none = none_holds (lacks_member d) (has_wrong_kind d) (is_out_of_range d) (has_bad_text d) e in
    texted_event n d utf8 none.0 none.1

control_said : (n : ℕ) (command : Result Command Why) → IfOne IsTexted (result_map_both (λ c. Control n c) (λ why. why) command)
control_said n (Ok command) = tt
control_said n (Err why) = tt

object_said : (control : Bool) (n : ℕ) (d : Data) → ((name : List ℕ) → IfThere IsUtf8 (text_at name d)) → IfOne IsTexted (if control then control_line_result n d else event_line_result n d)
object_said true n d utf8 = control_said n (command_result d)
object_said false n d utf8 = event_said n d (event_line_fault d) utf8 refl

value_said : (object : Bool) (n : ℕ) (d : Data) → ((name : List ℕ) → IfThere IsUtf8 (text_at name d)) → IfOne IsTexted (if object then object_result n d else Err NotJson)
value_said true n d utf8 = object_said (has_member (codes "do") d) n d utf8
value_said false n d utf8 = tt

line_said : (n : ℕ) (line : List ℕ) (value : Option Data) → json_value line ≡ value → IfOne IsTexted (option_map_or (value_result n) value (Err NotJson))
line_said n line None e = tt
line_said n line (Some d) e = value_said (is_some (as_object d)) n d (texts_utf8 line d e)

result_said : (n : ℕ) (result : Result Line Why) → IfOne IsTexted result → IfOne {E = LineFault} IsTexted (result_map_both (λ good. good) (λ (why : Why). record { line = n; why = why }) result)
result_said n (Ok line) h = h
result_said n (Err why) h = tt

numbered_texted : (line : ℕ × List ℕ) → IfOne IsTexted (numbered_result line)
numbered_texted line = result_said line.0 (line_result line.0 line.1) (line_said line.0 line.1 (json_value line.1) refl)

-- ---- all lines

all_good : {X E : Type 0} (P : X → Type 0) (results : List (Result X E)) (xs : List X) → All (IfOne P) results → all_or_first_error results ≡ Ok xs → All P xs
all_good P [] xs h e = let same : [] ≡ xs = cc in subst (All P) same (All-nil P)
all_good P (Err fault ∷ results) xs h e = absurd (cc e)
all_good P (Ok x ∷ results) xs h e = mapped P x (all_or_first_error results) xs (All-head (IfOne P) (Ok x) results h) (λ ys said. all_good P results ys (All-tail (IfOne P) (Ok x) results h) said) e

lines_texted : (input : List ℕ) (lines : List Line) → lines_said input ≡ Ok lines → All IsTexted lines
lines_texted input lines said =
    let numbered : List (ℕ × List ℕ) = numbered_lines 1 (input_lines input) in
    all_good IsTexted (map numbered_result numbered) lines (All-map (IfOne IsTexted) numbered_result numbered (λ k d within. numbered_texted _)) said

one_good : (line : Line) → IsTexted line → IsTimely line → IsLimited line → IsGoodLine line
one_good (Event e) h timely limited = record { request = h.request; machine = h.machine; task = h.task; event = h.event; send = h.send; recv = h.recv; timely = timely }
one_good (Control line command) h timely limited = limited

three : (lines : List Line) → All IsTexted lines → All IsTimely lines → All IsLimited lines → All IsGoodLine lines
three [] h timely limited = All-nil IsGoodLine
three (line ∷ lines) h timely limited =
    All-cons IsGoodLine line lines (one_good line (All-head IsTexted line lines h) (All-head IsTimely line lines timely) (All-head IsLimited line lines limited))
    (three lines (All-tail IsTexted line lines h) (All-tail IsTimely line lines timely) (All-tail IsLimited line lines limited))

pub said_good : (bytes : List ℕ) (lines : List Line) → lines_said bytes ≡ Ok lines → All IsGoodLine lines
said_good bytes lines said = three lines (lines_texted bytes lines said) (all_timely bytes lines said) (all_limited bytes lines said)

-- ---- all files

pub files_good : (n : ℕ) (inputs : List (List ℕ)) (lines : List Line) → files_said_from n inputs ≡ Ok lines → All IsGoodLine lines
files_good n [] lines h = let same : [] ≡ lines = cc in subst (All IsGoodLine) same (All-nil IsGoodLine)
files_good n (bytes ∷ inputs) lines h = by (lines_said bytes) (files_said_from (n + 1) inputs) refl refl (λ more f. files_good (n + 1) inputs more f) h
  where
    by : (one : Result (List Line) LineFault) (rest : Result (List Line) FileFault) → lines_said bytes ≡ one → files_said_from (n + 1) inputs ≡ rest
        → ((more : List Line) → files_said_from (n + 1) inputs ≡ Ok more → All IsGoodLine more) → said_after n (lines_said bytes) (files_said_from (n + 1) inputs) ≡ Ok lines → All IsGoodLine lines
    by (Ok xs) (Ok ys) p q later e =
        let is : Ok (xs ++ ys) ≡ Ok lines = sym (λ i. said_after n (p i) (q i)) ∙ e in
        let same : xs ++ ys ≡ lines = cc in
        subst (All IsGoodLine) same (All-append IsGoodLine xs ys (said_good bytes xs p) (later ys q))
    by (Ok xs) (Err fault) p q later e = let is : ◌≡◌ {A = Result (List Line) FileFault} (Err fault) (Ok lines) = sym (λ i. said_after n (p i) (q i)) ∙ e in absurd (cc is)
    by (Err fault) rest p q later e = let is : ◌≡◌ {A = Result (List Line) FileFault} (Err (record { file = n; line = fault.line; why = fault.why })) (Ok lines) = sym (λ i. said_after n (p i) (q i)) ∙ e in absurd (cc is)
