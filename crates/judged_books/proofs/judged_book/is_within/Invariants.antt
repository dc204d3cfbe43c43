use Rattle.std.proofs.Common.{◌≡◌, true, take}
use Rattle.word_rows.specs.Rows.{below}
use Rattle.judged_books.proofs.judged_book.is_within.Given as goal

-- the entries so far are below the width
abbrev pub invariant-entries : goal.invariant-entries
invariant-entries l = below l.width (take l.entry-index l.row) ≡ true
