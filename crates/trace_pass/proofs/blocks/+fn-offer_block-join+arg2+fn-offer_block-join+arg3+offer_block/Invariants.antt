use Rattle.trace_pass.proofs.blocks.+fn-offer_block-join+arg2+fn-offer_block-join+arg3+offer_block.Given as goal

abbrev pub decreases-join+arg2 : goal.decreases-join+arg2
decreases-join+arg2 g l = l.pass.view.shares

abbrev pub decreases-join+arg3 : goal.decreases-join+arg3
decreases-join+arg3 g l = l.next_pass.view.shares

abbrev pub decreases-offer_block : goal.decreases-offer_block
decreases-offer_block g l = l.part.pass.view.shares
