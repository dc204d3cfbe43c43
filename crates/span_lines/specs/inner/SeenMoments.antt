-- Moments that are borrowed.
use Rattle.std.specs.Prelude.{None}
use Rattle.span_lines.specs.Moments.{Moment}
use Rattle.span_lines.specs.declared.moments.SeenMoment.{SeenMoment}

-- what is borrowed: a moment without messages
abbrev pub moment_seen : SeenMoment → Moment
moment_seen seen =
    record { machine = seen.machine.now; time = seen.time; send = None; recv = None }
