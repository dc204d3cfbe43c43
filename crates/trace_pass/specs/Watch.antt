-- Watch lines, and the readings from which their numbers are taken.
use Rattle.std.specs.Prelude.{◌≡◌, ℕ, ◌+◌, ◌≤◌, List, ◌++◌, length, map, take}
use Rattle.std.specs.List.{All, AllPairs, flat_map}
use Rattle.trace_rules.specs.Halving.{share_at}
use Rattle.trace_rules.specs.WatchMarks.{watch_marks}
use Rattle.trace_rules.specs.declared.watch_line.WatchLine.{WatchLine}
use Rattle.trace_rules.specs.Hypotheses.{IsAtLeastRefuted, IsAtMostRefuted}
use Rattle.trace_types.specs.Parts.{by_number}
use Rattle.trace_types.specs.declared.named_trace.NamedTrace.{NamedTrace}
use Rattle.word_rows.specs.Changes.{readings_from}
use Rattle.word_rows.specs.Words.{AreWords}
use Rattle.trace_pass.specs.Counts.{zeros}
use Rattle.trace_pass.specs.States.{RecordingState}

-- the lines of workers with these shares, and the readings from which their numbers were taken
pub record HasWatched (every width : ℕ) (shares : List (List NamedTrace))
    (old new : RecordingState) (lines : List WatchLine) : Type 0 where
  pub marks : map (λ (l : WatchLine). (l.worker, l.done)) lines ≡ watch_marks every 0 shares
  -- the new readings are one block of all words for each line, in the order of the lines
  pub blocks : List (List ℕ)
  pub readings : new.pass.view.readings ≡
      old.pass.view.readings ++ flat_map (readings_from 0) blocks
  pub wide : All (λ (b : List ℕ). (length b ≡ width) × AreWords b) blocks
  -- each number counts the bits that are 0 in its line's block
  pub numbers : map (λ (l : WatchLine). l.refuted) lines ≡ map zeros blocks
  -- it is at least the number of hypotheses that the worker's traces until then refute
  pub least : All (λ (l : WatchLine).
      IsAtLeastRefuted by_number (take l.done (share_at shares l.worker)) l.refuted) lines
  -- and it never falls along a worker
  pub rising : AllPairs (λ (k : WatchLine) (l : WatchLine).
      k.worker ≡ l.worker → k.refuted ≤ l.refuted) lines

-- the upper bound of watch numbers: each is at most the number of hypotheses that some trace of the
-- list refutes
abbrev pub AreAtMostRefuted : List NamedTrace → List WatchLine → Type 0
AreAtMostRefuted traces lines =
    All (λ (l : WatchLine). IsAtMostRefuted by_number traces l.refuted) lines
