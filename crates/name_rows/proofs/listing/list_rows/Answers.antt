use Rattle.std.proofs.Common.{◌++◌, length, sym, ap, ◌∙◌, List}
use Rattle.evidence_rules.specs.declared.between.Between.{Between}
use Rattle.evidence_rules.specs.declared.pair_row.PairRow.{PairRow}
use Rattle.name_rows.specs.inner.Listings.{rows_of_place}
use Rattle.name_rows.proofs.RowLemmas.{flat_range_more}
use Rattle.name_rows.proofs.listing.list_rows.Goals as goal

pub firsts-preserved : goal.firsts-preserved
firsts-preserved c = λ kind.
    let first = c.firsts.first in
    let rows = rows_of_place c.args.table.now c.args.names.now kind c.args.least (length c.args.names.now) in
    c.in_ok-add_place.ensures kind ∙ (ap (λ (l : List (PairRow Between)). l ++ rows first) (c.firsts.invariant kind)
    ∙ sym (flat_range_more rows first))
