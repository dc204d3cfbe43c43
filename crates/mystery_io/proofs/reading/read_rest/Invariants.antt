use Rattle.std.proofs.Common.{◌≡◌, ◌-◌, false, true}
use Rattle.mystery_io.specs.Input.{input_limit}
use Rattle.mystery_io.specs.inner.Feeding.{FeedsBytes, IsFeeder}
use Rattle.mystery_io.proofs.reading.read_rest.Given as goal

-- what was read of the file came
abbrev pub invariant-loop-count : goal.invariant-loop-count
invariant-loop-count g l =
    let F = g.F.Files in
    let I = g.I.Intake in
    record {
      is_open : F.is_open l.files ≡ true;
      opens : F.opens l.files ≡ F.opens l.fn.files;
      tallied : F.faults l.files ≡ F.faults l.fn.files;
      sound : IsFeeder I.room I.ready l.feeder;
      takes : FeedsBytes I.took l.fn.feeder l.feeder (F.given l.fn.files) (F.given l.files) false;
    }

abbrev pub decreases-loop-count : goal.decreases-loop-count
decreases-loop-count g l = input_limit - l.feeder.count
