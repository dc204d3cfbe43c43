use Rattle.std.proofs.Common.{◌≡◌, ◌≤◌, ◌∙◌, List, false, arith, length, subst, sym}
use Rattle.std.specs.Prelude.{is_some}
use Rattle.std.proofs.lemmas.List.{take_all}
use Rattle.event_lines.specs.LineParts.{lines_of_runs}
use Rattle.event_lines.specs.declared.line_run.LineRun.{LineRun}
use Rattle.line_split.specs.inner.Calls.{call_of_line}
use Rattle.line_split.specs.inner.Known.{ArePartsSaid}
use Rattle.line_split.proofs.KnownLemmas.{parts_more}
use Rattle.line_split.proofs.known.parts_of.Goals as goal

pub runs-preserved : goal.runs-preserved
runs-preserved c =
    let none : is_some c.run-item.result.control ≡ false = sym c.is_some.ensures ∙ c.if-is_some.false in
    parts_more (call_of_line c.args.call) c.args.runs.now c.runs.run-index c.run-item.result _ _ c.runs-test.true c.run-item.is none c.in_ok-push_parts.ensures c.runs.invariant

pub returns : goal.returns
returns c =
    let all : length c.args.runs.now ≤ c.runs.run-index = omega arith in
    subst (λ (rs : List LineRun). ArePartsSaid (call_of_line c.args.call) (lines_of_runs rs) c.runs.parts.items) (take_all c.runs.run-index c.args.runs.now all) c.runs.invariant
