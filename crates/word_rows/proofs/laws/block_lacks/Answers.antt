use Rattle.word_rows.proofs.ReadingLemmas.{block_lacks}
use Rattle.word_rows.proofs.laws.block_lacks.Goals as goal

pub returns : goal.returns
returns c = block_lacks
