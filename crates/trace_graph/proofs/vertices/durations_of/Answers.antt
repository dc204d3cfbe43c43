use Rattle.std.proofs.Common.{arith}
use Rattle.std.proofs.lemmas.List.{take_more, map_push}
use Rattle.std.proofs.lemmas.Grind.{common_steps}
use Rattle.trace_graph.proofs.vertices.durations_of.Goals as goal

pub loop-key-preserved : goal.loop-key-preserved
loop-key-preserved c = grind (arith, common_steps, take_more, map_push, c.in_ok-push.ensures.items, c.loop-key.invariant, c.abs_diff.ensures)
