use Rattle.std.proofs.Common.{◌≡◌, ◌++◌, sym, ap, arith, ◌∙◌, All, List, ℕ, flat_map, subst, true}
use Rattle.std.specs.List.{range_with_len}
use Rattle.name_meetings.specs.Tables.{figures_of}
use Rattle.grace_quality.specs.Near.{is_slight, near_rows}
use Rattle.evidence_rules.specs.declared.between.Between.{Between}
use Rattle.grace_quality.specs.declared.near.NearRelation.{NearRelation}
use Rattle.grace_quality.specs.inner.Listings.{rows_of_name}
use Rattle.grace_quality.proofs.NearLemmas.{near_more, rows_slight}
use Rattle.grace_quality.proofs.near.find_near.Goals as goal

pub firsts-preserved : goal.firsts-preserved
firsts-preserved c =
    let first = c.firsts.first in
    let rows : ℕ → List NearRelation = rows_of_name (figures_of c.args.table.now) c.args.names in
    c.in_ok-add_name.ensures ∙ (ap (λ (l : List NearRelation). l ++ rows first) c.firsts.invariant
    ∙ sym (near_more rows first))

pub returns-clause-slight : goal.returns-clause-slight
returns-clause-slight c =
    let figures : ℕ → ℕ → Between = figures_of c.args.table.now in
    let same : c.firsts.first ≡ c.args.names = omega (arith, c.firsts-test.false, c.firsts.auto.first-end) in
    let are : c.firsts.rows.items ≡ near_rows figures c.args.names = c.firsts.invariant ∙ ap (λ n. flat_map (rows_of_name figures c.args.names) (range_with_len 0 n)) same in
    subst (All (λ (r : NearRelation). is_slight r.gap ≡ true)) (sym are) (rows_slight figures c.args.names)
