use Rattle.std.proofs.Common.{◌<◌, Option, ℕ, get_or, length, subst, sym, take}
use Rattle.std.specs.Prelude.{IfSome}
use Rattle.std.proofs.lemmas.List.Elements.{All-take}
use Rattle.context_forks.specs.Partners.{partner}
use Rattle.context_forks.proofs.PartnerLemmas.{partner_within}
use Rattle.context_forks.proofs.links.link_calls.Goals as goal

pub push_link-requires-clause-partner : goal.push_link-requires-clause-partner
push_link-requires-clause-partner c =
    let below = c.args.below.now in
    let calls = c.args.calls.now in
    subst (λ (o : Option ℕ). IfSome o (λ j. j < length c.args.numbers.now)) (sym c.find_partner-partner.ensures)
    (subst (λ n. IfSome (partner calls c.args.grace (take c.loop-index.index below) (get_or below c.loop-index.index 0)) (λ j. j < n)) (sym c.requires.same)
    (partner_within calls (λ i. i < length calls) c.args.grace (take c.loop-index.index below) (get_or below c.loop-index.index 0) (All-take (λ i. i < length calls) c.loop-index.index below c.requires.siblings.within)))
