use Rattle.std.proofs.Common.{map}
use Rattle.event_lines.specs.declared.line.Line.TheVariants.{Event}
use Rattle.drill_laws.proofs.InputLemmas.{input_said}
use Rattle.drill_laws.proofs.laws.the_lines_of_a_drill_are_good.Goals as goal

pub returns : goal.returns
returns c = λ number traces few. let h = input_said c.pieces_say_what_the_whole_says.ensures.said number traces few in (map Event h.0, h.2)
