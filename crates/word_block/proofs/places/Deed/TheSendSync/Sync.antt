use denote.RattleType.{RattleType}
use denote.Param.Send.{IsSync}
use Rattle.core.specs.declared.alloc.Allocator.{Ghosts}
use Rattle.word_block.proofs.CrossLemmas.{Deed-sync}
use Rattle.word_block.specs.contracts.places.Deed.{the_row}

pub sync : (A : RattleType) (g : Ghosts A.Denot) → IsSync (the_row A g)
sync = Deed-sync
