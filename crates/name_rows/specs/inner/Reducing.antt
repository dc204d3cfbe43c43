-- Rows that are not marked.
use Rattle.std.specs.Prelude.{Bool, not, List, map, filter}
use Rattle.std.specs.List.{zip}
use Rattle.evidence_rules.specs.declared.between.Between.{Between}
use Rattle.evidence_rules.specs.declared.pair_row.PairRow.{PairRow}

-- those beside which the mark is false
abbrev pub unmarked : List (PairRow Between) → List Bool → List (PairRow Between)
unmarked rows marks = map (λ x. x.0) (filter (λ x. not x.1) (zip rows marks))
