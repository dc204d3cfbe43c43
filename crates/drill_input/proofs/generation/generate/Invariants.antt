use Rattle.std.proofs.Common.{◌≡◌, ◌*◌}
use Rattle.drill_input.specs.Draws.{draw_state_after}
use Rattle.drill_input.specs.DrillInput.{drill_input}
use Rattle.drill_input.proofs.generation.generate.Given as goal

-- the traces so far, and the draws that they took
abbrev pub invariant-loop-index : goal.invariant-loop-index
invariant-loop-index l = record {
  traces : l.bytes.items ≡ drill_input l.number l.index;
  draws : l.sequence ≡ draw_state_after l.number (5 * l.index);
}
