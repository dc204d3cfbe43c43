use Rattle.std.proofs.Common.{◌++◌, ◌∙◌, ap, append_assoc, sym}
use Rattle.std.specs.Vec.Iter.{into_iter_items}
use Rattle.event_lines.specs.LineParts.{lines_of_runs}
use Rattle.inspect_run.specs.Logged.{logged_events}
use Rattle.inspect_run.proofs.LoggedLemmas.{runs_events}
use Rattle.inspect_run.proofs.traces.take_events.Goals as goal

pub runs-preserved : goal.runs-preserved
runs-preserved c =
    let run = c.in-Some.run' in
    let rest = into_iter_items c.next.new.self in
    let left = sym (runs_events run rest) ∙ ap (λ rs. logged_events (lines_of_runs rs)) (sym c.in-Some.ensures.steps.0) in
    ap (λ es. es ++ logged_events (lines_of_runs rest)) c.in_ok-push_part.ensures.ok ∙ append_assoc c.runs.events run.events (logged_events (lines_of_runs rest)) ∙ ap (λ es. c.runs.events ++ es) left ∙ c.runs.invariant
