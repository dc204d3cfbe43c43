use Rattle.std.proofs.Common.{arith}
use Rattle.span_requests.specs.inner.Ids.{lent_spans, pairs_of_keys}
use Rattle.span_requests.specs.inner.Numbering.{parent_number}
use Rattle.span_requests.proofs.CallerLemmas.{found_all, found_more, pairs_few, parent_by}
use Rattle.span_requests.proofs.callers.find_parents.Goals as goal

pub find_parent-requires : goal.find_parent-requires
find_parent-requires c = omega (arith, pairs_few c.args.spans.now (pairs_of_keys c.args.ids.now.keys) c.requires.ids, c.requires.few)

pub loop-span-preserved : goal.loop-span-preserved
loop-span-preserved c =
    let xs = c.args.spans.now in
    let s = c.span-item.result in
    let own = parent_by xs (pairs_of_keys c.args.ids.now.keys) s.now c.find_parent.result c.requires.ids c.find_parent.ensures in
    found_more (parent_number (lent_spans xs)) xs c.loop-span.span-index s c.find_parent.result c.loop-span.parents.items c.push.new.self.items c.loop-span-test.true c.span-item.is c.loop-span.invariant own c.in_ok-push.ensures.items

pub returns : goal.returns
returns c = found_all (parent_number (lent_spans c.args.spans.now)) c.args.spans.now c.loop-span.span-index c.loop-span.parents.items c.loop-span-test.false (omega arith) c.loop-span.invariant
