-- What private contracts see of a part of a recording.
use Rattle.std.specs.Prelude.{◌≡◌, ℕ, ◌+◌, ◌≤◌, List, ◌∷◌, ◌++◌, length, take, drop}
use Rattle.trace_types.specs.declared.named_trace.NamedTrace.{NamedTrace}
use Rattle.word_rule.specs.Holdings.{Holding}
use Rattle.trace_pass.specs.Rows.{AreRowsWithin}
use Rattle.trace_pass.specs.States.{HasOffered, RecorderState, RecordingState}

-- a part of a recording: its pass, the traces that are given to it, how many of them are recorded,
-- and below which number their names are
pub record PartState : Type 0 where
  pub pass : Holding
  pub given : List NamedTrace
  pub recorded : ℕ
  pub names : ℕ

-- the part of this pass and these traces
abbrev pub part_of : Holding → List NamedTrace → ℕ → ℕ → PartState
part_of pass given recorded names =
    record { pass = pass; given = given; recorded = recorded; names = names }

-- the recording that it is so far
abbrev pub recording_of : PartState → RecordingState
recording_of part =
    record { pass = part.pass; traces = take part.recorded part.given; names = part.names }

-- the traces that are not recorded yet
abbrev pub rest_of : PartState → List NamedTrace
rest_of part = drop part.recorded part.given

-- the part with another pass, and so many of its traces recorded
abbrev pub with_recorded : PartState → Holding → ℕ → PartState
with_recorded part pass recorded = part_of pass part.given recorded part.names

-- the pass's done rows are the whole rows of the recorded traces
pub record HasRows (part : PartState) : Type 0 where
  pub within : part.recorded ≤ length part.given
  pub rows : AreRowsWithin part.names (take part.recorded part.given) part.pass.view.done

-- the same traces are recorded and left
pub record HasSameTraces (old new : PartState) : Type 0 where
  pub given : new.given ≡ old.given
  pub recorded : new.recorded ≡ old.recorded
  pub names : new.names ≡ old.names

-- the next of the traces was offered
pub record HasOfferedNext (recorder : RecorderState) (old new : PartState) : Type 0 where
  pub trace : NamedTrace
  pub next : rest_of old ≡ trace ∷ rest_of new
  pub given : new.given ≡ old.given
  pub recorded : new.recorded ≡ old.recorded + 1
  pub offered : HasOffered recorder (recording_of old) trace (recording_of new)

-- the traces of two parts are those of this one, whose recorded ones are the first part's
pub record IsCutInto (part first other : PartState) : Type 0 where
  pub given : first.given ++ other.given ≡ part.given
  pub recorded : first.recorded ≡ part.recorded
  pub none : other.recorded ≡ 0
  pub first_names : first.names ≡ part.names
  pub other_names : other.names ≡ part.names
