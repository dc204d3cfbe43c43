-- Why a recorder was not closed, and what is given back.
use Rattle.std.specs.Prelude.{◌≡◌, ◌<◌, ◌≤◌}
use Rattle.trace_pass.specs.States.{RecorderState, RecordingState}
use Rattle.trace_pass.specs.declared.closing.RecorderFault.{RecorderFault}
use Rattle.trace_pass.specs.declared.closing.RecorderFault.TheVariants.{Memory, PassesOut}

-- the recording has fewer than all shares, or it has all and memory ran out; the recorder and the
-- recording come back unchanged
abbrev pub IsRecorderFault : RecorderState → RecordingState → RecorderFault → Type 0
IsRecorderFault recorder recording (Memory recorder' recording') =
    (recorder.table.all ≤ recording.pass.view.shares)
    × (recorder' ≡ recorder)
    × (recording' ≡ recording)
IsRecorderFault recorder recording (PassesOut recorder' recording' have all) =
    (recording.pass.view.shares < recorder.table.all)
    × (have ≡ recording.pass.view.shares)
    × (all ≡ recorder.table.all)
    × (recorder' ≡ recorder)
    × (recording' ≡ recording)
