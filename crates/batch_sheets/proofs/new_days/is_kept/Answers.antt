use Rattle.std.proofs.Common.{sym, ◌∙◌}
use Rattle.batch_sheets.proofs.NewDayLemmas.{day_further, day_there}
use Rattle.batch_sheets.proofs.new_days.is_kept.Goals as goal

pub places-preserved : goal.places-preserved
places-preserved c = sym (day_further c.args.book.now.days c.places.place c.day.result c.args.day c.day.ensures c.if-day.false) ∙ c.places.invariant

pub returns-then-day : goal.returns-then-day
returns-then-day c = sym (sym c.places.invariant ∙ day_there c.args.book.now.days c.places.place c.day.result c.args.day c.day.ensures c.if-day.true)
