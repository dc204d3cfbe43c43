use Rattle.std.proofs.Common.{◌≡◌, ◌≤◌, ◌+◌}
use Rattle.day_checks.proofs.drawn_days.drawn_commands_leave_the_days_of_a_plain_list.Given as goal

abbrev pub invariant-steps : goal.invariant-steps
invariant-steps g l =
    record {
      names : l.book.names ≡ l.names;
      least : 6 ≤ l.names;
      most : l.names ≤ l.step-counter + 6;
    }
