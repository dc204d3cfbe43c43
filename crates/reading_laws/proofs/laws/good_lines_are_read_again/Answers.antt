use Rattle.reading_laws.proofs.WholeLemmas.{read_again}
use Rattle.reading_laws.proofs.laws.good_lines_are_read_again.Goals as goal

pub returns : goal.returns
returns c = read_again c.pieces_say_what_the_whole_says.ensures.said 1
