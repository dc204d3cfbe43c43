use Rattle.trace_pass.proofs.blocks.+offer_in_turn.Given as goal

abbrev pub decreases-offer_in_turn : goal.decreases-offer_in_turn
decreases-offer_in_turn g l = l.part.pass.view.shares
