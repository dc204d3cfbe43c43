use Rattle.std.proofs.Common.{◌≡◌, ◌≤◌, take}
use Rattle.mystery_io.specs.Counts.{CountsCalls}
use Rattle.import_run.specs.CommandLines.{file_names}
use Rattle.import_run.specs.Inputs.{input_limit}
use Rattle.import_run.specs.inner.InputReadings.{HasRead}
use Rattle.import_run.specs.inner.Taken.{form_of_input}
use Rattle.import_run.proofs.input_reading.read_input.Given as goal

-- the files so far were read
abbrev pub invariant-loop-index : goal.invariant-loop-index
invariant-loop-index g l =
    let F = g.F.Files in
    record {
      opens : CountsCalls l.index (F.opens l.fn.files) (F.opens l.files);
      tallied : F.faults l.files ≡ F.faults l.fn.files;
      form : form_of_input l.input ≡ l.fn.form;
      size : l.size ≤ input_limit;
      read : HasRead (take l.index (file_names l.words)) l.input l.size (F.given l.fn.files) (F.given l.files);
    }
