use Rattle.std.proofs.Common.{◌≡◌}
use Rattle.page_rows.specs.Pages.{no_lists, with_rows}
use Rattle.page_rows.proofs.reading.list_rows.Given as goal

-- the page with the rows so far
abbrev pub invariant-rows : goal.invariant-rows
invariant-rows l = l.page ≡ with_rows no_lists l.yielded
