use Rattle.std.proofs.Common.{◌≡◌, ◌≤◌, ◌-◌, List, [], length, true, false}
use Rattle.mystery_io.specs.Readings.{Reading}
use Rattle.whole_files.specs.FileReadings.{Came}
use Rattle.whole_files.proofs.file_reading.read_rest.Given as goal

-- the bytes so far came
abbrev pub invariant-pieces : goal.invariant-pieces
invariant-pieces g l =
    let F = g.F.Files in
    record {
      is_open : F.is_open l.files ≡ true;
      opens : F.opens l.files ≡ F.opens l.fn.files;
      tallied : F.faults l.files ≡ F.faults l.fn.files;
      came : (before : List Reading) → Came l.name [] false before (F.given l.fn.files) → Came l.name l.bytes.items false before (F.given l.files);
      most : length l.bytes.items ≤ l.most;
    }

abbrev pub decreases-pieces : goal.decreases-pieces
decreases-pieces g l = l.most - length l.bytes.items
