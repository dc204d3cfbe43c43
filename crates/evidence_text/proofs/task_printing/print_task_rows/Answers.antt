use Rattle.std.proofs.Common.{refl, ◌∙◌, get_or, List}
use Rattle.std.proofs.lemmas.List.{get_or_default}
use Rattle.std.proofs.lemmas.Result.{err_from_is_err_and}
use Rattle.evidence_rules.specs.declared.sharing.Sharing.{Sharing}
use Rattle.evidence_rules.specs.declared.pair_row.PairRow.{PairRow}
use Rattle.text_rows.proofs.PrintLemmas.{prints_nothing, prints_next, prints_all, prints_part, prefix_next}
use Rattle.task_rows.proofs.RowLemmas.{no_row}
use Rattle.evidence_text.specs.Naming.{fields_of, task_row}
use Rattle.evidence_text.proofs.task_printing.print_task_rows.Goals as goal

pub rows-init : goal.rows-init
rows-init g c = record {
  prints = prints_nothing _ _;
  counted = refl;
}

pub rows-preserved : goal.rows-preserved
rows-preserved g c =
    let rows : List (PairRow Sharing) = c.args.rows.now in
    let text = task_row (fields_of c.args.naming.now) c.args.kind in
    record {
      prints = prints_next text rows c.rows.row-index (get_or rows c.rows.row-index no_row) _ _ _ _ _ _ c.rows-test.true (get_or_default rows c.rows.row-index no_row (get_or rows c.rows.row-index no_row) c.rows-test.true) c.rows.invariant.prints c.in_ok-print_task_row.ensures.all;
      counted = c.in_ok-print_task_row.ensures.counted ∙ c.rows.invariant.counted;
    }

pub returns : goal.returns
returns g c = record {
  all = prints_all (task_row (fields_of c.args.naming.now) c.args.kind) c.args.rows.now c.rows.row-index _ _ _ _ c.rows-test.false c.rows.invariant.prints;
  prefix = tt;
  counted = c.rows.invariant.counted;
}

pub returns-in_err-print_task_row : goal.returns-in_err-print_task_row
returns-in_err-print_task_row g c =
    let rows : List (PairRow Sharing) = c.args.rows.now in
    let text = task_row (fields_of c.args.naming.now) c.args.kind in
    let i = c.rows.row-index in
    let p = err_from_is_err_and c.from_residual.result c.from_residual.ensures.1 in
    rw (p.1, p.2) (prints_part g.S.Sink.written g.S.Sink.faults _ c.args.sink.now c.rows.sink _ _ _ _ c.rows.invariant.counted c.in_err-print_task_row.ensures.counted
    (prefix_next text rows i (get_or rows i no_row) _ _ _ _ _ c.rows-test.true (get_or_default rows i no_row (get_or rows i no_row) c.rows-test.true) c.rows.invariant.prints c.in_err-print_task_row.ensures.prefix))
