use Rattle.std.proofs.Common.{◌≡◌, take, true}
use Rattle.mystery_io.specs.Counts.{CountsCalls}
use Rattle.mystery_io.specs.inner.Feeding.{HasRead, IsFeeder}
use Rattle.mystery_io.proofs.reading.read_into.Given as goal

-- the files of the names so far were read
abbrev pub invariant-loop-name : goal.invariant-loop-name
invariant-loop-name g l =
    let F = g.F.Files in
    let I = g.I.Intake in
    record {
      index : l.index ≡ l.name-index;
      opens : CountsCalls l.name-index (F.opens l.fn.files) (F.opens l.files);
      tallied : F.faults l.files ≡ F.faults l.fn.files;
      sound : IsFeeder I.room I.ready l.feeder;
      lines : l.feeder.ends_line ≡ true;
      read : HasRead I.took l.feeder (take l.name-index l.names) (F.given l.fn.files) (F.given l.files);
    }
