use Rattle.std.proofs.Common.{◌-◌, arith, get_or}
use Rattle.context_forks.proofs.PartnerLemmas.{count_within, last_within}
use Rattle.context_forks.proofs.SiblingLemmas.{siblings_take}
use Rattle.context_forks.proofs.partners.find_partner.Goals as goal

pub count_outlasted-count-requires-clause-siblings : goal.count_outlasted-count-requires-clause-siblings
count_outlasted-count-requires-clause-siblings c = siblings_take c.args.calls.now c.args.below.now c.args.index (omega arith) c.requires.siblings

pub if_outlasts-requires-clause-call : goal.if_outlasts-requires-clause-call
if_outlasts-requires-clause-call c =
    let below = c.args.below.now in
    let count = c.count_outlasted-count.result in
    let few = count_within c.args.calls.now c.args.grace below c.args.last.now c.args.index (get_or below c.args.index 0) count c.requires.index c.requires.last c.count_outlasted-count.ensures.within c.count_outlasted-count.ensures.first in
    last_within c.args.calls.now below c.args.last.now (count - 1) c.requires.siblings.within c.requires.last (omega (arith, few, c.requires.index, c.if-count-eq0.false))
