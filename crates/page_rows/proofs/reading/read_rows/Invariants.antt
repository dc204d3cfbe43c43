use Rattle.std.proofs.Common.{◌≡◌, ◌+◌, drop}
use Rattle.page_rows.specs.Fields.{texts_of}
use Rattle.page_rows.specs.Pages.{after_rows, rows_said}
use Rattle.page_rows.proofs.reading.read_rows.Given as goal

-- the rows so far, and those of the lines that are left, are those of all lines
abbrev pub invariant-lines : goal.invariant-lines
invariant-lines l = record {
  number : l.number ≡ l.line-index + 1;
  told : rows_said 0 1 (texts_of l.fn.lines) ≡ after_rows l.rows.items (rows_said l.before l.number (texts_of (drop l.line-index l.lines)));
}
