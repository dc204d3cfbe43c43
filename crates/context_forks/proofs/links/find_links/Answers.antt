use Rattle.std.proofs.Common.{◌∙◌, subst, sym}
use Rattle.context_forks.specs.inner.Siblings.{AreSiblings}
use Rattle.context_forks.proofs.SiblingLemmas.{siblings_at}
use Rattle.context_forks.proofs.links.find_links.Goals as goal

pub link_calls-requires-clause-siblings : goal.link_calls-requires-clause-siblings
link_calls-requires-clause-siblings c =
    subst (AreSiblings c.args.calls.now) (sym (c.items.ensures ∙ c.index-below-at.is)) (siblings_at c.args.calls.now c.requires.rise c.args.below.now c.loop-at.at c.index-below-at.result c.requires.below c.loop-at-test.true)
