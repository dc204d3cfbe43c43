use Rattle.std.proofs.Common.{◌≡◌, drop}
use Rattle.what_if.specs.Forecasts.{changed_time}
use Rattle.what_if.proofs.prediction.time_with.Given as goal

abbrev pub invariant-changes : goal.invariant-changes
invariant-changes l =
    changed_time (drop l.change-index l.changes) l.name l.time ≡ changed_time l.changes l.name l.time
