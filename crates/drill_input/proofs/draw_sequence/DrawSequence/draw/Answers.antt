use Rattle.std.proofs.Common.{rules}
use Rattle.drill_input.specs.Draws.{next_draw_state}
use Rattle.drill_input.proofs.draw_sequence.DrawSequence.draw.Goals as goal

pub returns-clause-state : goal.returns-clause-state
unfolding next_draw_state
returns-clause-state c = search rules
