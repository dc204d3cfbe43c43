-- How many lines and events there are in runs.
use Rattle.std.proofs.Common.{◌≡◌, ℕ, ◌+◌, ◌<◌, ◌≤◌, ◌++◌, List, [], ◌∷◌, Option, Some, None, length, get_or, map, take, refl, ap, ◌∙◌, arith, append-nil}
use Rattle.std.proofs.lemmas.List.{length-append, take_more}
use Rattle.std.proofs.lemmas.List.Concat.{flat_map-append}
use Rattle.std.proofs.lemmas.List.Folds.{length-flat_map-take}
use Rattle.trace_types.specs.declared.event.Event as events
use Rattle.event_lines.specs.LineParts.{lines_of_control, lines_of_events, lines_of_run, lines_of_runs}
use Rattle.event_lines.specs.declared.line.Line.{Line}
use Rattle.event_lines.specs.declared.line.Line.TheVariants.{Control, Event}
use Rattle.event_lines.specs.declared.line_run.ControlLine.{ControlLine}
use Rattle.event_lines.specs.declared.line_run.LineRun.{LineRun}
use Rattle.line_quality.specs.EventsRead.{event_in, events_in}

events_alone : (es : List events.Event) → length (events_in (map Event es)) ≡ length es
events_alone [] = refl
events_alone (e ∷ es) = omega (arith, events_alone es)

no_event : (control : Option ControlLine) → events_in (lines_of_control control) ≡ []
no_event None = refl
no_event (Some control) = refl

-- a run has as many events among its lines as its table
pub run_events : (run : LineRun) → length (events_in (lines_of_run run)) ≡ length run.events
run_events run =
    let both : events_in (lines_of_run run) ≡ events_in (lines_of_events run.events) ++ events_in (lines_of_control run.control) = flat_map-append event_in (lines_of_events run.events) (lines_of_control run.control) in
    omega (arith, ap length both, length-append (events_in (lines_of_events run.events)) (events_in (lines_of_control run.control)), events_alone run.events, ap length (no_event run.control))

-- no more lines are events than there are lines
events_few : (lines : List Line) → length (events_in lines) ≤ length lines
events_few [] = omega arith
events_few (Event event ∷ lines) = omega (arith, events_few lines)
events_few (Control line command ∷ lines) = omega (arith, events_few lines)

-- a run has no more events than lines
table_few : (run : LineRun) → length run.events ≤ length (lines_of_run run)
table_few run = omega (arith, run_events run, events_few (lines_of_run run))

module _ (runs : List LineRun) (i : ℕ) (d : LineRun) (lt : i < length runs) where
  more : lines_of_runs (take (i + 1) runs) ≡ lines_of_runs (take i runs) ++ lines_of_run (get_or runs i d)
  more = ap lines_of_runs (take_more runs i d lt) ∙ flat_map-append lines_of_run (take i runs) (get_or runs i d ∷ []) ∙ ap (λ xs. lines_of_runs (take i runs) ++ xs) (append-nil (lines_of_run (get_or runs i d)))

  pub lines_more : length (lines_of_runs (take (i + 1) runs)) ≡ length (lines_of_runs (take i runs)) + length (lines_of_run (get_or runs i d))
  lines_more = omega (arith, ap length more, length-append (lines_of_runs (take i runs)) (lines_of_run (get_or runs i d)))

  pub lines_within : length (lines_of_runs (take i runs)) + length (lines_of_run (get_or runs i d)) ≤ length (lines_of_runs runs)
  lines_within = length-flat_map-take lines_of_run runs i d lt

  pub events_more : length (events_in (lines_of_runs (take (i + 1) runs))) ≡ length (events_in (lines_of_runs (take i runs))) + length (get_or runs i d).events
  events_more =
      let both : events_in (lines_of_runs (take (i + 1) runs)) ≡ events_in (lines_of_runs (take i runs)) ++ events_in (lines_of_run (get_or runs i d)) = ap events_in more ∙ flat_map-append event_in (lines_of_runs (take i runs)) (lines_of_run (get_or runs i d)) in
      omega (arith, ap length both, length-append (events_in (lines_of_runs (take i runs))) (events_in (lines_of_run (get_or runs i d))), run_events (get_or runs i d))

  pub run_within : length (lines_of_run (get_or runs i d)) ≤ length (lines_of_runs runs)
  run_within = omega (arith, lines_within)

  pub events_within : length (events_in (lines_of_runs (take i runs))) + length (get_or runs i d).events ≤ length (lines_of_runs runs)
  events_within = omega (arith, events_few (lines_of_runs (take i runs)), table_few (get_or runs i d), lines_within)
