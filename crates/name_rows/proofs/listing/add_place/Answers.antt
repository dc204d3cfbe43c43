use Rattle.std.proofs.Common.{◌++◌, ap, ◌∙◌, List, sym, append-nil}
use Rattle.evidence_rules.specs.declared.between.Between.{Between}
use Rattle.evidence_rules.specs.declared.pair_row.PairRow.{PairRow}
use Rattle.name_rows.specs.Kinds.{rows_in}
use Rattle.name_rows.specs.inner.Listings.{rows_of_pair}
use Rattle.name_rows.proofs.RowLemmas.{flat_range_more_behind}
use Rattle.name_rows.proofs.listing.add_place.Goals as goal

pub seconds-init : goal.seconds-init
seconds-init c = λ kind. sym (append-nil (rows_in c.args.lists.now kind))

pub seconds-preserved : goal.seconds-preserved
seconds-preserved c = λ kind.
    let second = c.seconds.second in
    let rows = rows_of_pair c.args.table.now c.args.names.now kind c.args.least c.args.first in
    c.in_ok-add_pair.ensures kind ∙ (ap (λ (l : List (PairRow Between)). l ++ rows second) (c.seconds.invariant kind)
    ∙ flat_range_more_behind (rows_in c.args.lists.now kind) rows second)
