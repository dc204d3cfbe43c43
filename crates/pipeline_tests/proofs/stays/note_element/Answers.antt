use Rattle.std.proofs.Common.{◌+◌, List, subst, sym}
use Rattle.pipeline_tests.specs.declared.stays.Stay.{Stay}
use Rattle.pipeline_tests.specs.inner.Stays.{AreStays, IsKnown, IsNew}
use Rattle.pipeline_tests.proofs.StayLemmas.{stays_longer, stays_grown}
use Rattle.pipeline_tests.proofs.stays.note_element.Goals as goal

pub returns-in-Some : goal.returns-in-Some
returns-in-Some c = stays_longer c.args.trace.now c.args.index c.args.element c.args.segment c.requires.handles c.args.stays.now.items c.requires.stays c.in-Some.known
    (subst (λ (l : List Stay). IsKnown l c.args.segment.task c.args.element c.in-Some.known) c.deref.ensures.value c.in-Some.ensures) c.index_mut-stay.result.now c.index_mut-stay.ensures.value

pub returns : goal.returns
returns c = subst (λ (l : List Stay). AreStays c.args.trace.now (c.args.index + 1) l) (sym c.in_ok-push.ensures.items)
    (stays_grown c.args.trace.now c.args.index c.args.element c.args.segment c.requires.handles c.args.stays.now.items c.requires.stays c.in_default.ensures)
