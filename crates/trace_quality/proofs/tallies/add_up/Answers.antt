use Rattle.std.proofs.Common.{rules}
use Rattle.trace_quality.specs.Measures.{counted, counted_of}
use Rattle.trace_quality.proofs.CountLemmas.{first_within, tally_all, tally_more}
use Rattle.trace_quality.proofs.tallies.add_up.Goals as goal

pub facts-preserved : goal.facts-preserved
facts-preserved c =
    tally_more (counted c.args.measure) (counted_of c.args.measure) c.args.facts.now c.facts.index _ c.facts.sum c.add_share-sum.result c.share_of.result.count c.share_of.result.of
    c.facts-test.true c.facts.invariant c.share_of.ensures.count c.share_of.ensures.of (search rules) (search rules)
    c.add_share-sum.ensures.count c.add_share-sum.ensures.of c.add_share-sum.ensures.first

pub returns-clause-tally : goal.returns-clause-tally
returns-clause-tally c = tally_all (counted c.args.measure) (counted_of c.args.measure) c.args.facts.now c.facts.index c.facts.sum c.facts-test.false c.facts.invariant

pub returns-clause-within : goal.returns-clause-within
returns-clause-within c =
    first_within _ c.args.facts.now c.facts.sum.first
    (tally_all (counted c.args.measure) (counted_of c.args.measure) c.args.facts.now c.facts.index c.facts.sum c.facts-test.false c.facts.invariant).first
