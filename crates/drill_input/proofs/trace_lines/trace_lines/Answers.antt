use Rattle.std.proofs.Common.{rules}
use Rattle.drill_input.specs.DrillInput.{lines_of}
use Rattle.drill_input.proofs.trace_lines.trace_lines.Goals as goal

pub returns : goal.returns
unfolding lines_of
returns c = search rules
