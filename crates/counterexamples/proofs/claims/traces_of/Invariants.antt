use Rattle.std.proofs.Common.{◌≡◌, drop}
use Rattle.day_partitions.specs.Books.{traces_kept_on}
use Rattle.counterexamples.proofs.claims.traces_of.Given as goal

-- the days so far are others
abbrev pub invariant-days : goal.invariant-days
invariant-days l = traces_kept_on (drop l.place l.book.days) l.day ≡ traces_kept_on l.book.days l.day
