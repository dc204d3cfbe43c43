use Rattle.std.proofs.Common.{sym, subst, slice_set, Some}
use Rattle.recording_checks.specs.inner.Holding.{AreHeld}
use Rattle.recording_checks.proofs.HoldingLemmas.{held-with, held-taken}
use Rattle.recording_checks.proofs.pools.fill_slot.Goals as goal

pub returns-clause-held : goal.returns-clause-held
returns-clause-held g c =
    let slots = slice_set c.args.ids.now c.args.slot (Some c.in-Some.id) in
    let taken = held-taken c.args.pool.now c.in-Some.id c.args.slot c.args.ids.now c.requires.slot c.requires.held c.in-Some.ensures.new in
    subst (λ p. AreHeld p slots) (sym c.write.ensures) (held-with _ _ _ slots (subst (λ p. AreHeld p slots) (sym c.in-Some.ensures.taken) taken))
