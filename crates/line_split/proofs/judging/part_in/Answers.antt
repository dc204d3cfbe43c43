use Rattle.std.proofs.Common.{◌≡◌, ◌≤◌, ◌∙◌, ℕ, List, Ok, Some, ap, arith, sym, length}
use Rattle.std.specs.Prelude.{is_some, true, false}
use Rattle.std.proofs.lemmas.List.{drop_all}
use Rattle.event_table.specs.LentEvents.{event_lent}
use Rattle.event_lines.specs.declared.line_run.LineRun.{LineRun}
use Rattle.event_lines.specs.LineParts.{lines_of_runs}
use Rattle.line_split.specs.Parts as parts
use Rattle.line_split.specs.inner.Calls.{call_of_line}
use Rattle.line_split.specs.inner.Said.{first_said}
use Rattle.line_split.specs.inner.Steps.{part_said}
use Rattle.line_split.proofs.SaidLemmas.{run_control, run_event, run_none}
use Rattle.line_split.proofs.judging.part_in.Goals as goal

pub returns-then-not-is_empty-clause-part : goal.returns-then-not-is_empty-clause-part
returns-then-not-is_empty-clause-part c =
    let call = call_of_line c.args.call in
    let first = run_event c.args.runs.now c.runs.run-index c.run-item.result c.runs-test.true c.run-item.is (event_lent c.event-event.result) c.event-event.ensures in
    let part : c.part_of.result ≡ parts.part_of call.parts call.seed c.event-event.result.request.now =
    c.part_of.ensures.part ∙ ap (λ (r : List ℕ). parts.part_of call.parts call.seed r) c.as_str.ensures in
    sym (ap (part_said call) (c.runs.invariant ∙ first) ∙ ap (λ (n : ℕ). Ok (Some n)) (sym part))

pub returns-then-is_some-clause-part : goal.returns-then-is_some-clause-part
returns-then-is_some-clause-part c =
    let call = call_of_line c.args.call in
    let some : is_some c.run-item.result.control ≡ true = sym c.is_some.ensures ∙ c.if-is_some.true in
    let first = run_control c.args.runs.now c.runs.run-index c.run-item.result c.runs-test.true c.run-item.is (c.is_empty.ensures.0 c.if-not-is_empty.false) some in
    sym (ap (part_said call) (c.runs.invariant ∙ first))

pub runs-preserved : goal.runs-preserved
runs-preserved c =
    let none : is_some c.run-item.result.control ≡ false = sym c.is_some.ensures ∙ c.if-is_some.false in
    c.runs.invariant ∙ run_none c.args.runs.now c.runs.run-index c.run-item.result c.runs-test.true c.run-item.is (c.is_empty.ensures.0 c.if-not-is_empty.false) none

pub returns-clause-part : goal.returns-clause-part
returns-clause-part c =
    let call = call_of_line c.args.call in
    let all : length c.args.runs.now ≤ c.runs.run-index = omega arith in
    sym (ap (part_said call) (c.runs.invariant ∙ ap (λ (rs : List LineRun). first_said (lines_of_runs rs)) (drop_all c.runs.run-index c.args.runs.now all)))
