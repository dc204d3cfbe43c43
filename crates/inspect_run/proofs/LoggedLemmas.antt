-- The events of lines that were read.
use Rattle.std.proofs.Common.{◌≡◌, ◌≤◌, ◌++◌, List, [], ◌∷◌, All, Option, Some, None, length, map, refl, ap, ◌∙◌, arith, append-nil}
use Rattle.std.proofs.lemmas.List.Concat.{flat_map-append}
use Rattle.std.proofs.lemmas.List.Elements.{All-cons, All-head, All-nil, All-tail}
use Rattle.trace_types.specs.declared.event.Event as events
use Rattle.trace_types.specs.Times.{AreTimely}
use Rattle.event_lines.specs.GoodLines.{IsTimely}
use Rattle.event_lines.specs.LineParts.{lines_of_control, lines_of_events, lines_of_run, lines_of_runs}
use Rattle.event_lines.specs.declared.line.Line.{Line}
use Rattle.event_lines.specs.declared.line.Line.TheVariants.{Control, Event}
use Rattle.event_lines.specs.declared.line_run.ControlLine.{ControlLine}
use Rattle.event_lines.specs.declared.line_run.LineRun.{LineRun}
use Rattle.line_quality.specs.EventsRead.{events_in, without_line}
use Rattle.inspect_run.specs.Logged.{logged_event, logged_events}

-- they are the events among the lines, but for their numbers
pub same_events : (lines : List Line) → map without_line (logged_events lines) ≡ events_in lines
same_events [] = refl
same_events (Event event ∷ lines) = ap (λ es. without_line event ∷ es) (same_events lines)
same_events (Control line command ∷ lines) = same_events lines

pub events_few : (lines : List Line) → length (logged_events lines) ≤ length lines
events_few [] = omega arith
events_few (Event event ∷ lines) = omega (arith, events_few lines)
events_few (Control line command ∷ lines) = omega (arith, events_few lines)

pub events_timely : (lines : List Line) → All IsTimely lines → AreTimely (logged_events lines)
events_timely [] h = All-nil (λ (e : events.Event). e.time ≤ 4102444800000000000)
events_timely (Event event ∷ lines) h = All-cons (λ (e : events.Event). e.time ≤ 4102444800000000000) event (logged_events lines) (All-head IsTimely (Event event) lines h) (events_timely lines (All-tail IsTimely (Event event) lines h))
events_timely (Control line command ∷ lines) h = events_timely lines (All-tail IsTimely (Control line command) lines h)

table_events : (es : List events.Event) → logged_events (map Event es) ≡ es
table_events [] = refl
table_events (e ∷ es) = ap (λ xs. e ∷ xs) (table_events es)

no_event : (control : Option ControlLine) → logged_events (lines_of_control control) ≡ []
no_event None = refl
no_event (Some control) = refl

-- those of a run are the events of its table
run_events : (run : LineRun) → logged_events (lines_of_run run) ≡ run.events
run_events run = flat_map-append logged_event (lines_of_events run.events) (lines_of_control run.control) ∙ (λ i. table_events run.events i ++ no_event run.control i) ∙ append-nil run.events

pub runs_events : (run : LineRun) (runs : List LineRun) → logged_events (lines_of_runs (run ∷ runs)) ≡ run.events ++ logged_events (lines_of_runs runs)
runs_events run runs = flat_map-append logged_event (lines_of_run run) (lines_of_runs runs) ∙ ap (λ es. es ++ logged_events (lines_of_runs runs)) (run_events run)
