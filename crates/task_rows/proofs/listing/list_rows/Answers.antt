use Rattle.std.proofs.Common.{◌++◌, length, sym, ap, ◌∙◌, List}
use Rattle.evidence_rules.specs.declared.sharing.Sharing.{Sharing}
use Rattle.evidence_rules.specs.declared.pair_row.PairRow.{PairRow}
use Rattle.task_rows.specs.inner.Listings.{rows_of_place}
use Rattle.task_rows.proofs.RowLemmas.{flat_range_more}
use Rattle.task_rows.proofs.listing.list_rows.Goals as goal

pub firsts-preserved : goal.firsts-preserved
firsts-preserved c =
    let first = c.firsts.first in
    let rows = rows_of_place c.args.table.now c.args.tasks.now c.args.kind c.args.least (length c.args.tasks.now) in
    c.in_ok-add_place.ensures ∙ (ap (λ (l : List (PairRow Sharing)). l ++ rows first) c.firsts.invariant
    ∙ sym (flat_range_more rows first))
