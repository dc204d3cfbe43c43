use Rattle.std.proofs.Common.{sym, ◌∙◌}
use Rattle.page_rows.proofs.ReadingLemmas.{empty_line}
use Rattle.page_rows.proofs.reading.read_line.Goals as goal

pub returns-then-is_empty-clause-read : goal.returns-then-is_empty-clause-read
returns-then-is_empty-clause-read c =
    empty_line c.args.before c.args.number c.args.line.now c.args.rows.now.items (sym c.is_empty.ensures ∙ c.if-is_empty.true)
