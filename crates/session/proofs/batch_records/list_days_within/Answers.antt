use Rattle.std.proofs.Common.{sym}
use Rattle.session.proofs.DayLemmas.{days_few, has_room, lacks_room}
use Rattle.session.proofs.batch_records.list_days_within.Goals as goal

pub days_with-count-requires : goal.days_with-count-requires
days_with-count-requires c = rw c.day_book-kept.ensures.book (days_few c.args.book.now.book c.args.named.now c.deref.result.now c.day_book-kept.ensures.kept.book (rw (sym c.deref.ensures.value) at c.in_ok-days.ensures) c.requires)

pub returns-then-count-gt-MOST_DAYS-clause-cause : goal.returns-then-count-gt-MOST_DAYS-clause-cause
returns-then-count-gt-MOST_DAYS-clause-cause c = lacks_room c.args.book.now.book c.args.named.now c.deref.result.now c.days_with-count.result c.day_book-kept.ensures.kept.book (rw (sym c.deref.ensures.value) at c.in_ok-days.ensures) (rw c.day_book-kept.ensures.book at c.days_with-count.ensures) c.if-count-gt-MOST_DAYS.true

pub returns-clause-room : goal.returns-clause-room
returns-clause-room c = has_room c.args.book.now.book c.args.named.now c.deref.result.now c.days_with-count.result c.day_book-kept.ensures.kept.book (rw (sym c.deref.ensures.value) at c.in_ok-days.ensures) (rw c.day_book-kept.ensures.book at c.days_with-count.ensures) c.if-count-gt-MOST_DAYS.false
