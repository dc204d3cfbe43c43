use Rattle.graph_picture.specs.Arrows.{line_text}
use Rattle.graph_picture.proofs.arrows.push_line.Goals as goal

pub returns : goal.returns
unfolding line_text
returns c = rw (c.shifted-left.ensures, c.shifted-right.ensures, c.leaves_at-leaves.ensures.value, c.turns_at-turns.ensures, c.enters_at-enters.ensures.value) at c.push_pieces.ensures
