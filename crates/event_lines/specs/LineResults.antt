-- What one line says: its event or its command, or the reason that it is bad.
use Rattle.std.specs.Prelude.{ℕ, ◌*◌, List, [], codes, if◌then◌else◌}
use Rattle.std.specs.Prelude.{Option, None, is_some, unwrap_or, Result, Ok, Err}
use Rattle.std.specs.Option.{option_map_or}
use Rattle.std.specs.Result.{result_map_both}
use Rattle.std.specs.Str.{is_utf8}
use Rattle.serde_json.specs.Data.{Data}
use Rattle.serde_json.specs.Read.{read}
use Rattle.serde_json.specs.Find.{as_object}
use Rattle.trace_types.specs.declared.event.Event as events
use Rattle.event_lines.specs.declared.why.Why.{Why}
use Rattle.event_lines.specs.declared.why.Why.TheVariants.{NotJson}
use Rattle.event_lines.specs.declared.line.Line.{Line}
use Rattle.event_lines.specs.declared.line.Line.TheVariants.{Event, Control}
use Rattle.event_lines.specs.Members.{has_member, text_at, number_at}
use Rattle.event_lines.specs.TimeUnits.{time_unit_of, nanoseconds_in}
use Rattle.event_lines.specs.Commands.{command_result}
use Rattle.event_lines.specs.EventFaults.{time_name, event_line_fault}

-- the event of line n, where the line has no fault
abbrev pub line_event : ℕ → Data → events.Event
line_event n d = record {
  line = n;
  request = unwrap_or (text_at (codes "request") d) [];
  machine = unwrap_or (text_at (codes "machine") d) [];
  task = unwrap_or (text_at (codes "task") d) [];
  event = unwrap_or (text_at (codes "event") d) [];
  time = nanoseconds_in (time_unit_of d) * unwrap_or (number_at (time_name d) d) 0;
  send = text_at (codes "send") d;
  recv = text_at (codes "recv") d;
}

-- what an event line says
abbrev pub event_line_result : ℕ → Data → Result Line Why
event_line_result n d = option_map_or Err (event_line_fault d) (Ok (Event (line_event n d)))

-- what a control line says
abbrev pub control_line_result : ℕ → Data → Result Line Why
control_line_result n d =
    result_map_both (λ command. Control n command) (λ why. why) (command_result d)

-- what an object says: with the member do it is a control line, and otherwise an event line
abbrev pub object_result : ℕ → Data → Result Line Why
object_result n d =
    if has_member (codes "do") d then control_line_result n d else event_line_result n d

-- what a JSON value says
abbrev pub value_result : ℕ → Data → Result Line Why
value_result n d = if is_some (as_object d) then object_result n d else Err NotJson

-- the JSON value of a line, as the reader of the JSON crate defines it
abbrev pub json_value : List ℕ → Option Data
json_value line = if is_utf8 line then read line else None

-- what line n says, where it is not blank
abbrev pub line_result : ℕ → List ℕ → Result Line Why
line_result n line = option_map_or (value_result n) (json_value line) (Err NotJson)
