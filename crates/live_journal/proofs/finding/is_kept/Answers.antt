use Rattle.std.proofs.Common.{◌<◌, [], length, sym, subst, ℕ}
use Rattle.std.proofs.lemmas.Bool.{ne_eqb}
use Rattle.day_partitions.specs.Books.{KeptDay}
use Rattle.live_journal.proofs.BookLemmas.{day_found, day_else}
use Rattle.live_journal.proofs.finding.is_kept.Goals as goal

none : KeptDay
none = record { day = 0; traces = [] }

pub returns-then-day : goal.returns-then-day
returns-then-day c =
    let inside : c.loop-place.place < length c.args.book.now.days = subst (λ (n : ℕ). c.loop-place.place < n) c.days-place-end.ensures.count c.loop-place-test.true in
    sym (day_found c.args.book.now.days c.loop-place.place c.day.result c.args.day none inside c.day.ensures c.if-day.true)

pub loop-place-preserved : goal.loop-place-preserved
loop-place-preserved c =
    let inside : c.loop-place.place < length c.args.book.now.days = subst (λ (n : ℕ). c.loop-place.place < n) c.days-place-end.ensures.count c.loop-place-test.true in
    day_else c.args.book.now.days c.loop-place.place c.day.result c.args.day none inside c.day.ensures (ne_eqb c.day.result c.args.day c.if-day.false) c.loop-place.invariant
