use Rattle.std.proofs.Common.{◌≡◌, map, take}
use Rattle.judged_books.specs.inner.KeptRows.{name_mark}
use Rattle.judged_books.proofs.kept_marks.mark_names.Given as goal

-- the marks so far
abbrev pub invariant-names : goal.invariant-names
invariant-names l = l.marks.items ≡ map (λ i. name_mark l.words i.1 l.number) (take l.item-index l.earlier)
