-- The watch lines of a day, from what a recorder tells.
use Rattle.std.proofs.Common.{◌≡◌, ℕ, List, ◌++◌, ap, ◌∙◌, subst}
use Rattle.trace_types.specs.declared.named_trace.NamedTrace.{NamedTrace}
use Rattle.trace_rules.specs.Halving.{shares_of}
use Rattle.trace_pass.specs.Meaning.{NumbersAreWithin}
use Rattle.trace_pass.specs.Rows.{LackOnlyRefuted}
use Rattle.trace_pass.specs.States.{RecorderState, RecordingState, first_recording}
use Rattle.trace_pass.specs.Watch.{HasWatched}
use Rattle.trace_rules.specs.WatchLines.{AreWatchLines}
use Rattle.trace_types.specs.Parts.{by_number}
use Rattle.trace_rules.specs.declared.watch_line.WatchLine.{WatchLine}

pub day_lines : NumbersAreWithin → (every width workers : ℕ) (traces : List NamedTrace) (r : RecorderState) (old new : RecordingState) (lines : List WatchLine) → old ≡ first_recording r → r.table.all ≡ workers
    → HasWatched every width (shares_of traces old.pass.view.shares) old new lines → new.traces ≡ old.traces ++ traces → LackOnlyRefuted new.pass.view.readings new.traces → AreWatchLines by_number every workers traces lines
day_lines law every width workers traces r old new lines first all watched recorded lack =
    let shares : old.pass.view.shares ≡ workers = ap (λ (o : RecordingState). o.pass.view.shares) first ∙ all in
    let own : new.traces ≡ traces = recorded ∙ ap (λ (o : RecordingState). o.traces ++ traces) first in
    law every width workers traces old new lines
    (subst (λ n. HasWatched every width (shares_of traces n) old new lines) shares watched)
    (subst (LackOnlyRefuted new.pass.view.readings) own lack)
