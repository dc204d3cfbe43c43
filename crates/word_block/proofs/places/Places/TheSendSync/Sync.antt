use denote.Param.Send.{IsSync}
use Rattle.word_block.proofs.CrossLemmas.{Places-sync}
use Rattle.word_block.specs.contracts.places.Places.{the_row}

pub sync : IsSync the_row
sync = Places-sync
