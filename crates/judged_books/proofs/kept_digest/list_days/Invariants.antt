use Rattle.std.proofs.Common.{◌≡◌, map, take}
use Rattle.judged_books.proofs.kept_digest.list_days.Given as goal

-- the days so far
abbrev pub invariant-days : goal.invariant-days
invariant-days l = l.days.items ≡ map (λ k. k.day) (take l.place l.book.book.days)
