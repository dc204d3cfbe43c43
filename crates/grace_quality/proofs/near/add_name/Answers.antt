use Rattle.std.proofs.Common.{◌++◌, ap, ◌∙◌, List, ℕ}
use Rattle.name_meetings.specs.Tables.{figures_of}
use Rattle.grace_quality.specs.Near.{near_of}
use Rattle.grace_quality.specs.declared.near.NearRelation.{NearRelation}
use Rattle.grace_quality.proofs.NearLemmas.{near_more_behind}
use Rattle.grace_quality.proofs.near.add_name.Goals as goal

pub seconds-preserved : goal.seconds-preserved
seconds-preserved c =
    let second = c.seconds.second in
    let rows : ℕ → List NearRelation = λ b. near_of c.args.first b (figures_of c.args.table.now c.args.first b) in
    c.in_ok-add_pair.ensures ∙ ap (λ figures. c.seconds.rows.items ++ near_of c.args.first second figures) c.between.ensures
    ∙ (ap (λ (l : List NearRelation). l ++ rows second) c.seconds.invariant
    ∙ near_more_behind c.args.rows.now.items rows second)
