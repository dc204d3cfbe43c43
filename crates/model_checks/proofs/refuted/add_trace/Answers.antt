use Rattle.model_checks.proofs.AnswerLemmas.{told_start, told_more, told_end}
use Rattle.model_checks.proofs.refuted.add_trace.Goals as goal

pub loop-place-init : goal.loop-place-init
loop-place-init c = told_start c.args.traces.now c.args.at c.args.first.now c.args.names.now c.args.row.now c.requires.told

pub loop-place-preserved : goal.loop-place-preserved
loop-place-preserved c =
    told_more c.args.traces.now c.args.at c.loop-place.place c.args.first.now c.args.names.now c.loop-place.row c.index-traces-at.result c.index-names-place.result _ c.refuted_by.result c.either.result
    c.requires.within c.index-traces-at.is c.loop-place-test.true c.index-names-place.is c.refuted_by.ensures
    (record { apart = c.either.ensures.apart; before = c.either.ensures.before; after = c.either.ensures.after; exclusive = c.either.ensures.exclusive }) c.loop-place.invariant

pub returns : goal.returns
returns c = told_end c.args.traces.now c.args.at c.loop-place.place c.args.first.now c.args.names.now c.loop-place.row c.loop-place-test.false c.loop-place.invariant
