use Rattle.event_rewrite.specs.WithoutWaits.{without_waits}
use Rattle.reading_laws.proofs.GoodLemmas.{files_good}
use Rattle.reading_laws.proofs.WholeLemmas.{read_again, without_good}
use Rattle.reading_laws.proofs.laws.what_is_written_is_read.Goals as goal

pub returns : goal.returns
returns c = λ inputs lines said few.
    read_again c.pieces_say_what_the_whole_says.ensures.said 1 (without_waits lines) (without_good lines few (files_good 0 inputs lines said))
