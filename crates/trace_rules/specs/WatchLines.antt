-- The watch lines of one day of a batch, by any reading of its traces.
use Rattle.std.specs.Prelude.{◌≡◌, ℕ, ◌≤◌, List, map, take}
use Rattle.std.specs.List.{All, AllPairs}
use Rattle.trace_rules.specs.Hypotheses.{IsWithinRefuted}
use Rattle.trace_types.specs.Parts.{Parts}
use Rattle.trace_rules.specs.Halving.{share_of, shares_of}
use Rattle.trace_rules.specs.WatchMarks.{watch_marks}
use Rattle.trace_rules.specs.declared.watch_line.WatchLine.{WatchLine}

-- the watch lines of traces that so many workers share by halving, with a line after every so many
-- of a worker's traces: the number of a line is at least that of the hypotheses that the worker's
-- traces until then refute, and at most that of those that all traces refute; the numbers never
-- fall along a worker, and nothing else is fixed
pub record AreWatchLines {A S N T E : Type 0} (p : Parts A S N T E) (every workers : ℕ)
    (traces : List A) (lines : List WatchLine) : Type 0 where
  pub marks : map (λ (l : WatchLine). (l.worker, l.done)) lines ≡
      watch_marks every 0 (shares_of traces workers)
  pub within : All (λ (l : WatchLine).
      IsWithinRefuted p (take l.done (share_of traces workers l.worker)) traces l.refuted) lines
  pub rising : AllPairs (λ (k : WatchLine) (l : WatchLine).
      k.worker ≡ l.worker → k.refuted ≤ l.refuted) lines
