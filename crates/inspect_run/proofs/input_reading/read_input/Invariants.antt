use Rattle.std.proofs.Common.{◌≡◌, ◌≤◌, take}
use Rattle.event_lines.specs.LineParts.{lines_of_runs}
use Rattle.mystery_io.specs.Counts.{CountsCalls}
use Rattle.mystery_io.specs.Input.{input_limit}
use Rattle.inspect_run.specs.inner.InputReadings.{HasRead}
use Rattle.inspect_run.proofs.input_reading.read_input.Given as goal

-- the files so far were read and judged
abbrev pub invariant-loop-index : goal.invariant-loop-index
invariant-loop-index g l =
    let F = g.F.Files in
    record {
      opens : CountsCalls l.index (F.opens l.fn.files) (F.opens l.files);
      tallied : F.faults l.files ≡ F.faults l.fn.files;
      size : l.size ≤ input_limit;
      read : HasRead (take l.index l.words) (lines_of_runs l.judged.runs.items) l.judged.findings l.size (F.given l.fn.files) (F.given l.files);
    }
