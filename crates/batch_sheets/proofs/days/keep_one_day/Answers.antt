use Rattle.std.proofs.Common.{refl}
use Rattle.batch_sheets.proofs.DayLemmas.{one_day}
use Rattle.batch_sheets.proofs.days.keep_one_day.Goals as goal

pub returns : goal.returns
returns c = rw c.in_ok-vec.ensures.items (one_day c.args.day c.args.named.items _ refl refl c.requires)
