use Rattle.std.proofs.Common.{◌++◌, ap, ◌∙◌, List}
use Rattle.evidence_rules.specs.declared.sharing.Sharing.{Sharing}
use Rattle.evidence_rules.specs.declared.pair_row.PairRow.{PairRow}
use Rattle.task_rows.specs.inner.Listings.{rows_of_pair}
use Rattle.task_rows.proofs.RowLemmas.{flat_range_more_behind}
use Rattle.task_rows.proofs.listing.add_place.Goals as goal

pub seconds-preserved : goal.seconds-preserved
seconds-preserved c =
    let second = c.seconds.second in
    let rows = rows_of_pair c.args.table.now c.args.tasks.now c.args.kind c.args.least c.args.first in
    c.in_ok-add_pair.ensures ∙ (ap (λ (l : List (PairRow Sharing)). l ++ rows second) c.seconds.invariant
    ∙ flat_range_more_behind c.args.rows.now.items rows second)
