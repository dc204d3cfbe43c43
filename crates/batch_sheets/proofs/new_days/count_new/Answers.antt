use Rattle.batch_sheets.proofs.NewDayLemmas.{all_counted}
use Rattle.batch_sheets.proofs.new_days.count_new.Goals as goal

pub returns-clause-count : goal.returns-clause-count
returns-clause-count c = all_counted c.args.book.now.days c.args.days.now c.days.day-index c.days.new c.days.invariant.count c.days-test.false
