-- What one line says.
use Rattle.std.proofs.Common.{◌≡◌, ◌≤◌, ◌<◌, ◌+◌, ℕ, List, [], ◌∷◌, ◌++◌, Bool, true, false, Option, Some, None, Result, Ok, Err, length, ap, arith, refl, sym, ◌∙◌, drop, get_or}
use Rattle.std.specs.Prelude.{slice_get, if◌then◌else◌, is_some}
use Rattle.std.proofs.lemmas.Bool.{le-ltb, lt-ltb}
use Rattle.std.proofs.lemmas.List.{drop_more}
use Rattle.trace_types.specs.declared.event.Event as events
use Rattle.event_lines.specs.Cut.{input_lines, is_blank_line}
use Rattle.event_lines.specs.InputLines.{LineFault, lines_said, lines_said_from}
use Rattle.event_lines.specs.LineParts.{lines_of_control, lines_of_events, lines_of_runs}
use Rattle.event_lines.specs.LineResults.{line_result}
use Rattle.event_lines.specs.declared.line.Line as said
use Rattle.event_lines.specs.declared.line.Line.TheVariants.{Event, Control}
use Rattle.event_lines.specs.declared.line_run.ControlLine.{ControlLine}
use Rattle.event_lines.specs.declared.line_run.LineRun.{LineRun}
use Rattle.event_lines.specs.declared.why.Why.{Why}
use Rattle.line_split.specs.declared.reason.Reason.{Reason}
use Rattle.line_split.specs.declared.reason.Reason.TheVariants as reasons
use Rattle.line_split.specs.Lines.{longest_line, request_of, request_said}
use Rattle.line_split.specs.inner.Said.{first_said}

event_first : (es : List events.Event) (control rest : List said.Line) (e : events.Event) → slice_get es 0 ≡ Some e → first_said ((lines_of_events es ++ control) ++ rest) ≡ Ok (Some e.request)
event_first [] control rest e is = cc
event_first (x ∷ es) control rest e is =
    let same : x ≡ e = cc in
    ap (λ (y : events.Event). Ok (Some y.request)) same

control_first : (es : List events.Event) (control : Option ControlLine) (rest : List said.Line) → length es ≡ 0 → is_some control ≡ true → first_said ((lines_of_events es ++ lines_of_control control) ++ rest) ≡ Err reasons.Control
control_first [] None rest none some = cc
control_first [] (Some control) rest none some = refl
control_first (x ∷ es) control rest none some = absurd (omega (arith, none))

nothing_first : (es : List events.Event) (control : Option ControlLine) (rest : List said.Line) → length es ≡ 0 → is_some control ≡ false → first_said ((lines_of_events es ++ lines_of_control control) ++ rest) ≡ first_said rest
nothing_first [] None rest none some = refl
nothing_first [] (Some control) rest none some = cc
nothing_first (x ∷ es) control rest none some = absurd (omega (arith, none))

module _ (runs : List LineRun) (i : ℕ) (run : LineRun) (within : i < length runs) (is : run ≡ get_or runs i run) where
  next : lines_of_runs (drop i runs) ≡ (lines_of_events run.events ++ lines_of_control run.control) ++ lines_of_runs (drop (i + 1) runs)
  next = ap lines_of_runs (drop_more runs i run within) ∙ ap (λ (r : LineRun). (lines_of_events r.events ++ lines_of_control r.control) ++ lines_of_runs (drop (i + 1) runs)) (sym is)

  pub run_event : (e : events.Event) → slice_get run.events 0 ≡ Some e → first_said (lines_of_runs (drop i runs)) ≡ Ok (Some e.request)
  run_event e first = ap first_said next ∙ event_first run.events (lines_of_control run.control) (lines_of_runs (drop (i + 1) runs)) e first

  pub run_control : length run.events ≡ 0 → is_some run.control ≡ true → first_said (lines_of_runs (drop i runs)) ≡ Err reasons.Control
  run_control none some = ap first_said next ∙ control_first run.events run.control (lines_of_runs (drop (i + 1) runs)) none some

  pub run_none : length run.events ≡ 0 → is_some run.control ≡ false → first_said (lines_of_runs (drop i runs)) ≡ first_said (lines_of_runs (drop (i + 1) runs))
  run_none none some = ap first_said next ∙ nothing_first run.events run.control (lines_of_runs (drop (i + 1) runs)) none some

good_first : (x : said.Line) → request_said (Ok x) ≡ first_said (x ∷ [])
good_first (Event e) = refl
good_first (Control line command) = refl

module _ (line : List ℕ) where
  abbrev pub unlimited : Result (Option (List ℕ)) Reason
  unlimited = if is_blank_line line then Ok None else request_said (line_result 1 line)

  pub short : length line ≤ longest_line → request_of line ≡ unlimited
  short le = ap (λ (b : Bool). if b then Err reasons.TooLong else unlimited) (le-ltb longest_line (length line) le)

  -- a line that is too long
  pub request_long : longest_line < length line → request_of line ≡ Err reasons.TooLong
  request_long long = ap (λ (b : Bool). if b then Err reasons.TooLong else unlimited) (lt-ltb longest_line (length line) long)

  good_by : (v : List said.Line) (b : Bool) (r : Result said.Line Why) → is_blank_line line ≡ b → line_result 1 line ≡ r → lines_said_from 1 (line ∷ []) ≡ Ok v → unlimited ≡ first_said v
  good_by v true r e f h =
      let g : Ok [] ≡ Ok v = rw e at h in
      let none : [] ≡ v = cc in
      rw e (ap first_said none)
  good_by v false (Ok x) e f h =
      let g : Ok (x ∷ []) ≡ Ok v = rw (e, f) at h in
      let one : x ∷ [] ≡ v = cc in
      rw (e, f) (good_first x ∙ ap first_said one)
  good_by v false (Err why) e f h =
      let g : Err (record { line = 1; why = why }) ≡ Ok v = rw (e, f) at h in
      cc

  bad_by : (fault : LineFault) (b : Bool) (r : Result said.Line Why) → is_blank_line line ≡ b → line_result 1 line ≡ r → lines_said_from 1 (line ∷ []) ≡ Err fault → unlimited ≡ Err (reasons.Line fault.why)
  bad_by fault true r e f h =
      let g : Ok [] ≡ Err fault = rw e at h in
      cc
  bad_by fault false (Ok x) e f h =
      let g : Ok (x ∷ []) ≡ Err fault = rw (e, f) at h in
      cc
  bad_by fault false (Err why) e f h =
      let g : Err (record { line = 1; why = why }) ≡ Err fault = rw (e, f) at h in
      let same : record { line = 1; why = why } ≡ fault = cc in
      rw (e, f) (ap (λ (x : LineFault). Err (reasons.Line x.why)) same)

  -- a reading of one line gives its request
  pub request_read : (v : List said.Line) → input_lines line ≡ line ∷ [] → length line ≤ longest_line → lines_said line ≡ Ok v → request_of line ≡ first_said v
  request_read v one le h = short le ∙ good_by v (is_blank_line line) (line_result 1 line) refl refl (ap (lines_said_from 1) (sym one) ∙ h)

  -- or why it is bad
  pub reason_read : (fault : LineFault) → input_lines line ≡ line ∷ [] → length line ≤ longest_line → lines_said line ≡ Err fault → request_of line ≡ Err (reasons.Line fault.why)
  reason_read fault one le h = short le ∙ bad_by fault (is_blank_line line) (line_result 1 line) refl refl (ap (lines_said_from 1) (sym one) ∙ h)
