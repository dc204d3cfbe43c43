use denote.RattleType.{RattleType}
use denote.Param.Send.{IsSend, Frees}
use Rattle.core.specs.declared.alloc.Allocator.{Ghosts}
use Rattle.word_block.proofs.CrossLemmas.{Deed-send}
use Rattle.word_block.specs.contracts.places.Deed.{the_row}

pub send : (A : RattleType) (g : Ghosts A.Denot) → IsSend A → Frees g g.dealloc_token → IsSend (the_row A g)
send A g s = Deed-send A g
