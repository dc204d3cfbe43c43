-- What contracts see of a recorder and a recording.
use Rattle.std.specs.Prelude.{◌≡◌, ℕ, ◌<◌, ◌≤◌, List, [], ◌∷◌, ◌++◌, length}
use Rattle.pipeline_tests.specs.Rows.{IsWholeRow}
use Rattle.trace_types.specs.declared.named_trace.NamedTrace.{NamedTrace}
use Rattle.word_rows.specs.declared.entries.Entry.{Entry}
use Rattle.word_rows.specs.Changes.{first_view, with_done}
use Rattle.word_rule.specs.Holdings.{Holding, IsOfTable, Opened, together}
use Rattle.word_rule.specs.Histories.{IsClearBetween, IsOnePast, KnowsMore, offered_until}

-- a recorder: its table, and below which number the names of its traces are
pub record RecorderState : Type 0 where
  pub table : Opened
  pub names : ℕ

-- a recording: its pass, the traces that it offered, in order, and a number above those of their
-- names
pub record RecordingState : Type 0 where
  pub pass : Holding
  pub traces : List NamedTrace
  pub names : ℕ

-- the recording is of this recorder: its pass is of the recorder's table
pub record IsOfRecorder (recorder : RecorderState) (recording : RecordingState) : Type 0 where
  pub pass : IsOfTable recorder.table recording.pass
  pub names : recording.names ≡ recorder.names

-- the recording that a recorder opens with: its pass has all shares and knows nothing
abbrev pub first_recording : RecorderState → RecordingState
first_recording recorder = record {
  pass = record {
    table_id = recorder.table.table_id;
    view = first_view recorder.table.all;
    pasts = [];
  };
  traces = [];
  names = recorder.names;
}

-- the same traces by another pass
abbrev pub with_pass : RecordingState → Holding → RecordingState
with_pass recording pass =
    record { pass = pass; traces = recording.traces; names = recording.names }

-- a recording of no trace by this pass
abbrev pub empty_recording : RecordingState → Holding → RecordingState
empty_recording recording pass = record { pass = pass; traces = []; names = recording.names }

-- two recordings as one: the other's traces follow
abbrev pub both_recordings : RecordingState → RecordingState → RecordingState
both_recordings recording other = record {
  pass = together recording.pass other.pass;
  traces = recording.traces ++ other.traces;
  names = recording.names;
}

-- the recording offered one trace more: the trace's whole row is the last of its done rows, and
-- each entry is cleared by one step of every history that goes on from what the pass then knows
pub record HasOffered (recorder : RecorderState) (old : RecordingState) (trace : NamedTrace)
    (new : RecordingState) : Type 0 where
  pub row : List Entry
  pub whole : IsWholeRow trace row
  pub table_id : new.pass.table_id ≡ old.pass.table_id
  pub view : new.pass.view ≡ with_done old.pass.view row
  pub stands : (k : ℕ) → k < length row
      → IsClearBetween recorder.table.width recorder.table.all old.pass.pasts
      (offered_until old.pass.view row k) row new.pass.pasts
  pub more : KnowsMore old.pass.pasts new.pass.pasts
  pub one : IsOnePast new.pass.pasts
  pub traces : new.traces ≡ old.traces ++ trace ∷ []
  pub names : new.names ≡ old.names

-- a call that stopped because memory ran out: the recording has offered the first of the traces,
-- each once, and may hold fewer shares
pub record HasStopped (recorder : RecorderState) (old : RecordingState) (given : List NamedTrace)
    (new : RecordingState) : Type 0 where
  pub table : IsOfRecorder recorder new
  pub shares : new.pass.view.shares ≤ old.pass.view.shares
  pub offered : List NamedTrace
  pub left : List NamedTrace
  pub parts : given ≡ offered ++ left
  pub recorded : new.traces ≡ old.traces ++ offered
