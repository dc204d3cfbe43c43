use Rattle.std.proofs.Common.{◌≡◌, ◌++◌, take}
use Rattle.std.specs.List.{flat_map}
use Rattle.drill_input.specs.DrillInput.{line_of}
use Rattle.drill_input.proofs.generation.put_lines.Given as goal

-- the lines so far
abbrev pub invariant-loop-line : goal.invariant-loop-line
invariant-loop-line l = l.bytes.items ≡ l.fn.bytes.items ++ flat_map (line_of l.index) (take l.line-index l.lines)
