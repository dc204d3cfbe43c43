use Rattle.std.proofs.Common.{sym, ◌∙◌}
use Rattle.page_rows.specs.declared.gain_rows.GainRow.{GainRow}
use Rattle.ranking_picture.proofs.GainLemmas.{gain_here, gain_later, no_gain}
use Rattle.ranking_picture.proofs.ranking.half_of.Goals as goal

pub gains-preserved : goal.gains-preserved
gains-preserved c =
    c.gains.invariant ∙ gain_later (λ (g : GainRow). g.half) c.args.gains.now c.gains.gain-index c.gain-item.result c.args.name.now c.gains-test.true c.gain-item.is (sym c.same_name.ensures ∙ c.if-same_name.false)

pub returns-then-same_name : goal.returns-then-same_name
returns-then-same_name c =
    c.copy_of.ensures ∙ sym (c.gains.invariant ∙ gain_here (λ (g : GainRow). g.half) c.args.gains.now c.gains.gain-index c.gain-item.result c.args.name.now c.gains-test.true c.gain-item.is (sym c.same_name.ensures ∙ c.if-same_name.true))

pub returns : goal.returns
returns c = c.of.ensures ∙ sym (c.gains.invariant ∙ no_gain (λ (g : GainRow). g.half) c.args.gains.now c.gains.gain-index c.args.name.now c.gains-test.false)
