use Rattle.std.proofs.Common.{rules}
use Rattle.trace_quality.specs.Slowest.{counts_slow, counts_slow_refused}
use Rattle.trace_quality.proofs.CountLemmas.{first_within, tally_all}
use Rattle.trace_quality.proofs.SlowLemmas.{slow_more}
use Rattle.trace_quality.proofs.slowest.tally_slowest.Goals as goal

pub facts-preserved : goal.facts-preserved
facts-preserved c =
    slow_more c.args.facts.now c.in_ok-limit.limit c.in_ok-limit.ensures c.facts.index _ c.facts.sum c.add_share-sum.result c.slow_share.result.count c.slow_share.result.of
    c.facts-test.true c.facts.invariant c.slow_share.ensures.count c.slow_share.ensures.of (search rules) (search rules)
    c.add_share-sum.ensures.count c.add_share-sum.ensures.of c.add_share-sum.ensures.first

pub returns-clause-tally : goal.returns-clause-tally
returns-clause-tally c = tally_all (counts_slow_refused c.args.facts.now) (counts_slow c.args.facts.now) c.args.facts.now c.facts.index c.facts.sum c.facts-test.false c.facts.invariant

pub returns-clause-within : goal.returns-clause-within
returns-clause-within c =
    first_within _ c.args.facts.now c.facts.sum.first
    (tally_all (counts_slow_refused c.args.facts.now) (counts_slow c.args.facts.now) c.args.facts.now c.facts.index c.facts.sum c.facts-test.false c.facts.invariant).first
