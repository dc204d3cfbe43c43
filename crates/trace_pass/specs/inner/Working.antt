-- What a worker, and a block of workers, needs and does.
use Rattle.std.specs.Prelude.{◌≡◌, ℕ, ◌+◌, ◌-◌, ◌/◌, ◌^◌, ◌<◌, ◌≤◌, List, [], ◌∷◌, ◌++◌, length, map, take, drop}
use Rattle.std.specs.List.{All, AllPairs, flat_map}
use Rattle.refute_tests.specs.Clearing.{HaveNamesBelow}
use Rattle.trace_rules.specs.Halving.{first_part, shares_of}
use Rattle.trace_rules.specs.WatchMarks.{watch_counts}
use Rattle.trace_rules.specs.declared.watch_line.WatchLine.{WatchLine}
use Rattle.trace_rules.specs.Hypotheses.{IsAtLeastRefuted}
use Rattle.trace_types.specs.Parts.{by_number}
use Rattle.trace_types.specs.declared.named_trace.NamedTrace.{NamedTrace}
use Rattle.word_rows.specs.declared.views.Reading.{Reading}
use Rattle.word_rows.specs.Changes.{readings_from}
use Rattle.word_rows.specs.Words.{AreWords}
use Rattle.word_rule.specs.Histories.{KnowsMore}
use Rattle.word_rule.specs.Holdings.{Holding}
use Rattle.trace_pass.specs.States.{HasStopped, IsOfRecorder, RecorderState, RecordingState}
use Rattle.trace_pass.specs.inner.Parts.{HasRows, PartState, recording_of, rest_of, with_recorded}
use Rattle.trace_pass.specs.Counts.{zeros}

-- the workers from this one on, one for each share of the recording, may offer these traces
pub record CanOffer (recorder : RecorderState) (recording : RecordingState)
    (traces : List NamedTrace) (worker : ℕ) : Type 0 where
  pub table : IsOfRecorder recorder recording
  pub names : All (HaveNamesBelow recorder.names) traces
  pub few : length traces < 2 ^ 32
  pub workers : worker + recording.pass.view.shares < 2 ^ 32

-- these are all lines of one worker, so many of whose traces were offered; each number counts the
-- bits that are 0 in one block of all words, is at least the number of hypotheses that its first
-- traces refute, and never falls
pub record AreLinesAfter (every width worker offered : ℕ) (share : List NamedTrace)
    (lines : List WatchLine) (blocks : List (List ℕ)) : Type 0 where
  pub of_worker : All (λ (l : WatchLine). l.worker ≡ worker) lines
  pub counts : map (λ (l : WatchLine). l.done) lines ≡ watch_counts every offered
  pub wide : All (λ (b : List ℕ). (length b ≡ width) × AreWords b) blocks
  pub numbers : map (λ (l : WatchLine). l.refuted) lines ≡ map zeros blocks
  pub least : All (λ (l : WatchLine). IsAtLeastRefuted by_number (take l.done share) l.refuted) lines
  pub rising : AllPairs (λ (k : WatchLine) (l : WatchLine). k.refuted ≤ l.refuted) lines

-- the lines of several workers, of whom this one is the first, and the blocks of their numbers, by
-- worker
abbrev pub AreLines : ℕ → ℕ → ℕ → List (List NamedTrace) → List WatchLine → List (List ℕ)
    → Type 0
AreLines every width worker [] lines blocks = (lines ≡ []) × (blocks ≡ [])
AreLines every width worker (share ∷ shares) lines blocks =
    (mine : List WatchLine) × (others : List WatchLine)
    × (read : List (List ℕ)) × (later : List (List ℕ))
    × (lines ≡ mine ++ others) × (blocks ≡ read ++ later)
    × AreLinesAfter every width worker (length share) share mine read
    × AreLines every width (worker + 1) shares others later

-- the new readings are one block for each line of these workers, of whom this one is the first
pub record HasWatchedFrom (every width worker : ℕ) (shares : List (List NamedTrace))
    (old new : RecordingState) (lines : List WatchLine) : Type 0 where
  pub blocks : List (List ℕ)
  pub readings : new.pass.view.readings ≡
      old.pass.view.readings ++ flat_map (readings_from 0) blocks
  pub by_worker : AreLines every width worker shares lines blocks

-- workers with these shares of the traces, of whom this one is the first, offered all traces
pub record HasWorked (recorder : RecorderState) (every worker : ℕ) (old : RecordingState)
    (traces : List NamedTrace) (shares : List (List NamedTrace))
    (new : RecordingState) (lines : List WatchLine) : Type 0 where
  pub table : IsOfRecorder recorder new
  pub same : new.pass.view.shares ≡ old.pass.view.shares
  pub recorded : new.traces ≡ old.traces ++ traces
  pub more : KnowsMore old.pass.pasts new.pass.pasts
  pub watched : HasWatchedFrom every recorder.table.width worker shares old new lines

-- workers, one for each share of the part, of whom this one is the first, recorded all its traces
pub record HasRecorded (recorder : RecorderState) (every worker : ℕ) (part : PartState)
    (pass : Holding) (lines : List WatchLine) : Type 0 where
  pub worked : HasWorked recorder every worker (recording_of part) (rest_of part)
      (shares_of (rest_of part) part.pass.view.shares)
      (recording_of (with_recorded part pass (length part.given))) lines
  pub rows : HasRows (with_recorded part pass (length part.given))

-- they stopped because memory ran out, with so many of the part's traces recorded
pub record HasStoppedAt (recorder : RecorderState) (part : PartState) (pass : Holding)
    (recorded : ℕ) : Type 0 where
  pub stopped : HasStopped recorder (recording_of part) (rest_of part)
      (recording_of (with_recorded part pass recorded))
  pub rows : HasRows (with_recorded part pass recorded)

-- so many of the worker's share were offered, and the readings since this base are one block for
-- each line so far
pub record IsWatching (every width worker offered : ℕ) (share : List NamedTrace)
    (base readings : List Reading) (lines : List WatchLine) : Type 0 where
  pub blocks : List (List ℕ)
  pub added : readings ≡ base ++ flat_map (readings_from 0) blocks
  pub so_far : AreLinesAfter every width worker offered share lines blocks

-- a recording and its traces as two, for the first half of the workers, of whom this one is the
-- first, and for the others
pub record AreHalves (recorder : RecorderState) (worker : ℕ) (old : RecordingState)
    (traces : List NamedTrace) (first : RecordingState) (firsts : List NamedTrace)
    (other : RecordingState) (rest : List NamedTrace) : Type 0 where
  pub takes : firsts ≡ take (first_part (length traces) old.pass.view.shares) traces
  pub leaves : rest ≡ drop (first_part (length traces) old.pass.view.shares) traces
  pub first_shares : first.pass.view.shares ≡ old.pass.view.shares / 2
  pub other_shares : other.pass.view.shares ≡ old.pass.view.shares - old.pass.view.shares / 2
  pub first_traces : first.traces ≡ old.traces
  pub other_traces : other.traces ≡ []
  pub first_pasts : first.pass.pasts ≡ old.pass.pasts
  pub first_readings : first.pass.view.readings ≡ old.pass.view.readings
  pub other_readings : other.pass.view.readings ≡ []
  pub first_can : CanOffer recorder first firsts worker
  pub other_can : CanOffer recorder other rest (worker + old.pass.view.shares / 2)
