use Rattle.std.proofs.Common.{◌<◌, ◌^◌, List, length, sym, subst}
use Rattle.evidence_rules.specs.declared.between.Between.{Between}
use Rattle.evidence_rules.specs.declared.pair_row.PairRow.{PairRow}
use Rattle.evidence_rows.proofs.CountLemmas.{rows_few}
use Rattle.evidence_rows.proofs.of_names.sorted_rows.Goals as goal

pub sort_rows-requires : goal.sort_rows-requires
sort_rows-requires c =
    let listed = c.requires.2 in
    subst (λ (l : List (PairRow Between)). length l < 2 ^ 32) (sym listed.listed) (rows_few listed.between listed.is c.requires.0 c.requires.1)
