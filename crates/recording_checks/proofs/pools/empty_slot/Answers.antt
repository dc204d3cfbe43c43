use Rattle.std.proofs.Common.{◌≡◌, Some, None, sym, ◌∙◌, subst, get_or, slice_set}
use Rattle.std.proofs.lemmas.List.{get_or_default}
use Rattle.recording_checks.specs.inner.Holding.{AreHeld}
use Rattle.recording_checks.proofs.HoldingLemmas.{held-given}
use Rattle.recording_checks.proofs.pools.empty_slot.Goals as goal

pub returns-clause-held : goal.returns-clause-held
returns-clause-held c =
    let p = c.args.pool.now in let ids = c.args.ids.now in let slot = c.args.slot in
    let there : get_or ids slot None ≡ Some c.in-Some.id = get_or_default ids slot None c.index-ids-slot.result c.requires.slot ∙ sym c.in-Some.ensures.value in
    subst (λ o. AreHeld c.give_back.new.self (slice_set ids slot o)) (sym c.take.ensures.after)
    (subst (λ q. AreHeld q (slice_set ids slot None)) (sym c.give_back.ensures) (held-given p c.in-Some.id slot ids c.requires.slot c.requires.held there))
