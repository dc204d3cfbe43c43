-- What a line says does not depend on its number.
use Rattle.std.proofs.Common.{◌≡◌, ℕ, List, [], Bool, true, false, Option, Some, None, Result, Ok, Err, refl, codes}
use Rattle.std.specs.Prelude.{if◌then◌else◌, is_ok, is_some}
use Rattle.std.specs.Option.{option_map_or}
use Rattle.std.specs.Result.{result_map_both}
use Rattle.serde_json.specs.Data.{Data}
use Rattle.serde_json.specs.Find.{as_object}
use Rattle.trace_types.specs.declared.event.Event as events
use Rattle.event_lines.specs.Commands.{command_result}
use Rattle.event_lines.specs.EventFaults.{event_line_fault}
use Rattle.event_lines.specs.LineResults.{control_line_result, event_line_result, json_value, line_event, line_result, object_result, value_result}
use Rattle.event_lines.specs.Members.{has_member}
use Rattle.event_lines.specs.declared.command.Command.{Command}
use Rattle.event_lines.specs.declared.line.Line.{Line}
use Rattle.event_lines.specs.declared.line.Line.TheVariants.{Control, Event}
use Rattle.event_lines.specs.declared.why.Why.{Why}
use Rattle.event_lines.specs.declared.why.Why.TheVariants.{NotJson}
use Rattle.line_quality.specs.EventsRead.{event_in, event_said}

-- why a line is bad, if it is
abbrev pub why_said : Result Line Why → Option Why
why_said (Ok x) = None
why_said (Err why) = Some why

-- its event, as if it stood in line 0
abbrev pub unlined : Result Line Why → List events.Event
unlined (Ok x) = event_in x
unlined (Err why) = []

pub ok_said : (r : Result Line Why) → why_said r ≡ None → is_ok r ≡ true
ok_said (Ok x) h = refl
ok_said (Err why) h = absurd (cc h)

pub err_said : (r : Result Line Why) (why : Why) → why_said r ≡ Some why → r ≡ Err why
err_said (Ok x) why h = absurd (cc h)
err_said (Err other) why h = cc

pub not_ok_said : (r : Result Line Why) (why : Why) → why_said r ≡ Some why → is_ok r ≡ false
not_ok_said (Ok x) why h = absurd (cc h)
not_ok_said (Err other) why h = refl

pub no_event_said : (r : Result Line Why) (why : Why) → why_said r ≡ Some why → event_said r ≡ []
no_event_said (Ok x) why h = absurd (cc h)
no_event_said (Err other) why h = refl

-- ---- the reason

control_why : (n m : ℕ) (command : Result Command Why) → why_said (result_map_both (λ c. Control n c) (λ why. why) command) ≡ why_said (result_map_both (λ c. Control m c) (λ why. why) command)
control_why n m (Ok command) = refl
control_why n m (Err why) = refl

event_why : (n m : ℕ) (d : Data) (fault : Option Why) → why_said (option_map_or Err fault (Ok (Event (line_event n d)))) ≡ why_said (option_map_or Err fault (Ok (Event (line_event m d))))
event_why n m d (Some why) = refl
event_why n m d None = refl

object_why : (n m : ℕ) (d : Data) (control : Bool) → why_said (if control then control_line_result n d else event_line_result n d) ≡ why_said (if control then control_line_result m d else event_line_result m d)
object_why n m d true = control_why n m (command_result d)
object_why n m d false = event_why n m d (event_line_fault d)

value_why : (n m : ℕ) (d : Data) (object : Bool) → why_said (if object then object_result n d else Err NotJson) ≡ why_said (if object then object_result m d else Err NotJson)
value_why n m d true = object_why n m d (has_member (codes "do") d)
value_why n m d false = refl

line_why : (n m : ℕ) (value : Option Data) → why_said (option_map_or (value_result n) value (Err NotJson)) ≡ why_said (option_map_or (value_result m) value (Err NotJson))
line_why n m None = refl
line_why n m (Some d) = value_why n m d (is_some (as_object d))

pub why_is_free : (n m : ℕ) (line : List ℕ) → why_said (line_result n line) ≡ why_said (line_result m line)
why_is_free n m line = line_why n m (json_value line)

-- ---- the event

control_event : (n : ℕ) (command : Result Command Why) → event_said (result_map_both (λ c. Control 0 c) (λ why. why) command) ≡ unlined (result_map_both (λ c. Control n c) (λ why. why) command)
control_event n (Ok command) = refl
control_event n (Err why) = refl

event_event : (n : ℕ) (d : Data) (fault : Option Why) → event_said (option_map_or Err fault (Ok (Event (line_event 0 d)))) ≡ unlined (option_map_or Err fault (Ok (Event (line_event n d))))
event_event n d (Some why) = refl
event_event n d None = refl

object_event : (n : ℕ) (d : Data) (control : Bool) → event_said (if control then control_line_result 0 d else event_line_result 0 d) ≡ unlined (if control then control_line_result n d else event_line_result n d)
object_event n d true = control_event n (command_result d)
object_event n d false = event_event n d (event_line_fault d)

value_event : (n : ℕ) (d : Data) (object : Bool) → event_said (if object then object_result 0 d else Err NotJson) ≡ unlined (if object then object_result n d else Err NotJson)
value_event n d true = object_event n d (has_member (codes "do") d)
value_event n d false = refl

line_events : (n : ℕ) (value : Option Data) → event_said (option_map_or (value_result 0) value (Err NotJson)) ≡ unlined (option_map_or (value_result n) value (Err NotJson))
line_events n None = refl
line_events n (Some d) = value_event n d (is_some (as_object d))

pub event_is_free : (n : ℕ) (line : List ℕ) → event_said (line_result 0 line) ≡ unlined (line_result n line)
event_is_free n line = line_events n (json_value line)
