use Rattle.std.proofs.Common.{List, ℕ, subst}
use Rattle.std.proofs.lemmas.Result.{on_ok_weaker}
use Rattle.event_lines.specs.LineParts.{lines_of_runs}
use Rattle.line_quality.specs.inner.Sorting.{Appends}
use Rattle.line_quality.proofs.SortingLemmas.{judges_bad}
use Rattle.line_quality.proofs.judging.judge_bad.Goals as goal

pub returns : goal.returns
returns g c =
    let old = lines_of_runs c.args.runs.now.items in
    let new = lines_of_runs c.append_kept.new.runs.items in
    let text = c.in_ok-text.text.items in
    on_ok_weaker c.append_kept.result (λ a. judges_bad c.args.file c.args.bytes.now text old new c.args.findings.now c.sort_lines.new.findings c.in_ok-text.ensures (subst (λ (xs : List ℕ). Appends xs old new) c.deref.ensures.value a)) c.append_kept.ensures
