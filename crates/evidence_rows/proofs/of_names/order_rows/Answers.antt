use Rattle.std.proofs.Common.{◌<◌, ◌^◌, List, All, length, sym, ap, subst, arith}
use Rattle.evidence_rules.specs.EvidenceRows.{AreReduced}
use Rattle.evidence_rules.specs.declared.between.Between.{Between}
use Rattle.evidence_rules.specs.declared.pair_row.PairRow.{PairRow}
use Rattle.evidence_rows.proofs.CountLemmas.{reduced_few, rows_below, rows_few}
use Rattle.evidence_rows.proofs.of_names.order_rows.Goals as goal

pub sort_rows-requires : goal.sort_rows-requires
sort_rows-requires c =
    let listed = c.requires.listed in
    subst (λ (l : List (PairRow Between)). length l < 2 ^ 32) (sym listed.listed) (rows_few listed.between listed.is c.args.names c.requires.few)

pub without_implied-requires-clause-below : goal.without_implied-requires-clause-below
without_implied-requires-clause-below c =
    let listed = c.requires.listed in
    subst (All (λ (row : PairRow Between). (row.first < c.args.names) × (row.second < c.args.names))) (sym listed.listed) (rows_below listed.between listed.is c.args.names)

pub sort_rows-requires-2 : goal.sort_rows-requires-2
sort_rows-requires-2 c =
    let listed = c.requires.listed in
    let left : List (PairRow Between) = c.in_ok-left.left.items in
    let few = subst (λ (l : List (PairRow Between)). length l < 2 ^ 32) (sym listed.listed) (rows_few listed.between listed.is c.args.names c.requires.few) in
    let same = ap length c.deref.ensures.value in
    omega (arith, same, few, reduced_few c.args.rows.now left c.in_ok-left.ensures)
