use Rattle.pipeline_tests.proofs.SharingLemmas.{elements_differ, pair_exact}
use Rattle.pipeline_tests.proofs.pairs.clear_pair.Goals as goal

pub compare-sharing-requires-clause-differ : goal.compare-sharing-requires-clause-differ
compare-sharing-requires-clause-differ c = elements_differ c.args.trace.now c.args.high.now c.requires.high

pub returns-clause-cleared : goal.returns-clause-cleared
returns-clause-cleared c = let v = c.compare-sharing.ensures in
    pair_exact c.args.trace.now c.args.low.now c.args.high.now c.requires.low c.requires.high c.requires.rises v.0 v.1 c.args.maker.now c.clear_hits.new.maker
    (c.in_ok-clear_hits.ensures.cleared c.args.trace.now.grace v.0 v.2)
