use Rattle.std.proofs.Common.{◌∙◌, ◌-◌, ◌≤◌, ap, refl, arith}
use Rattle.std.specs.FinMap.{get}
use Rattle.std.specs.Option.{option_map}
use Rattle.word_rows.specs.Words.{widened_words as with_full}
use Rattle.row_pool.proofs.WidthLemmas.{widened}
use Rattle.row_pool.proofs.pool.RowPool.new_width.Goals as goal

pub invariant_of-self : goal.invariant_of-self
invariant_of-self c =
    let a = c.self.inside in
    let more : a.width ≤ c.args.width = omega (arith, c.requires, ap (λ q. q.width) c.self.view_is) in
    (widened a.storage a.width a.total a.next a.spare c.in_ok-self-inside.field-0 c.args.width c.self.invariant more c.in_ok-self-inside.ensures).sound

pub returns-clause-ok : goal.returns-clause-ok
returns-clause-ok c =
    let a = c.self.inside in
    let more : a.width ≤ c.args.width = omega (arith, c.requires, ap (λ q. q.width) c.self.view_is) in
    let w = widened a.storage a.width a.total a.next a.spare c.in_ok-self-inside.field-0 c.args.width c.self.invariant more c.in_ok-self-inside.ensures in
    record {
      width = refl;
      spare = ap (λ q. q.spare) c.self.view_is;
      rows = λ id. w.rows id ∙ ap (λ q. option_map (λ words. with_full words (c.args.width - q.width)) (get q.rows id)) c.self.view_is;
    }
