use denote.Param.Send.{IsSend}
use Rattle.word_block.proofs.CrossLemmas.{Places-send}
use Rattle.word_block.specs.contracts.places.Places.{the_row}

pub send : IsSend the_row
send = Places-send
