use Rattle.std.proofs.Common.{◌≡◌, ◌≤◌, take}
use Rattle.batch_sheets.proofs.NewDayLemmas.{count_none}
use Rattle.batch_sheets.proofs.new_days.count_new.Given as goal

-- of the days so far
abbrev pub invariant-days : goal.invariant-days
invariant-days l =
    record {
      count : l.new ≡ count_none l.book.days (take l.day-index l.days);
      few : l.new ≤ l.day-index;
    }
