-- What is promised of shares, counts and watch numbers, over the definitions alone.
use Rattle.std.specs.Prelude.{◌≡◌, ℕ, ◌<◌, ◌≤◌, List, length}
use Rattle.std.specs.List.{All, flat_map}
use Rattle.hypothesis_index.specs.Places.{width_of}
use Rattle.refute_tests.specs.Clearing.{HaveNamesBelow}
use Rattle.refute_tests.specs.Survivors.{AreSurvivors}
use Rattle.trace_rules.specs.Halving.{shares_of}
use Rattle.trace_rules.specs.WatchLines.{AreWatchLines}
use Rattle.trace_rules.specs.declared.watch_line.WatchLine.{WatchLine}
use Rattle.trace_types.specs.Parts.{by_number}
use Rattle.trace_types.specs.declared.named_trace.NamedTrace.{NamedTrace}
use Rattle.trace_pass.specs.Counts.{IsRefutedCount, zeros}
use Rattle.trace_pass.specs.Rows.{LackOnlyRefuted}
use Rattle.trace_pass.specs.States.{RecordingState}
use Rattle.trace_pass.specs.Watch.{AreAtMostRefuted, HasWatched}

-- there is one share for each worker, and one after the other they are the traces
abbrev pub SharesAreWhole : Type 0
SharesAreWhole = (traces : List NamedTrace) (workers : ℕ) → 0 < workers
    → (length (shares_of traces workers) ≡ workers)
    × (flat_map (λ (share : List NamedTrace). share) (shares_of traces workers) ≡ traces)

-- traces refute one number of hypotheses
abbrev pub CountIsOne : Type 0
CountIsOne = (traces : List NamedTrace) (m n : ℕ)
    → IsRefutedCount traces m → IsRefutedCount traces n → m ≡ n

-- the words of a sheet have as many bits 0 as there are hypotheses that its traces refute
abbrev pub ZerosAreCount : Type 0
ZerosAreCount = (names : ℕ) (traces : List NamedTrace) (words : List ℕ)
    → names ≤ 512 → All (HaveNamesBelow names) traces → length words ≡ width_of names
    → AreSurvivors traces words → IsRefutedCount traces (zeros words)

-- the upper bound: where a recording's readings lack only what some of the traces refutes, watch
-- numbers that were taken from them count only such hypotheses
abbrev pub NumbersAreAtMost : Type 0
NumbersAreAtMost = (every width : ℕ) (shares : List (List NamedTrace)) (traces : List NamedTrace)
    (old new : RecordingState) (lines : List WatchLine)
    → HasWatched every width shares old new lines
    → LackOnlyRefuted new.pass.view.readings traces
    → AreAtMostRefuted traces lines

-- where a recording's readings lack only what some of the traces refutes, the watch lines that
-- were taken while so many workers offered these traces are within their bounds
abbrev pub NumbersAreWithin : Type 0
NumbersAreWithin = (every width workers : ℕ) (traces : List NamedTrace)
    (old new : RecordingState) (lines : List WatchLine)
    → HasWatched every width (shares_of traces workers) old new lines
    → LackOnlyRefuted new.pass.view.readings traces
    → AreWatchLines by_number every workers traces lines
