use Rattle.event_lines.proofs.PieceLemmas.{input_lines-cut, both_pieces}
use Rattle.event_lines.proofs.laws.pieces_say_what_the_whole_says.Goals as goal

pub returns-clause-lines : goal.returns-clause-lines
returns-clause-lines c = input_lines-cut

pub returns-clause-said : goal.returns-clause-said
returns-clause-said c = both_pieces
