use Rattle.std.proofs.Common.{arith}
use Rattle.event_lines.proofs.PieceLemmas.{few_input_lines}
use Rattle.event_lines.proofs.lines_so_far.LinesSoFar.add.Goals as goal

pub returns-in_ok-append-in-Ok-clause-few : goal.returns-in_ok-append-in-Ok-clause-few
returns-in_ok-append-in-Ok-clause-few g c = omega (arith, c.in-Ok.ensures.1, few_input_lines c.args.bytes.now)
