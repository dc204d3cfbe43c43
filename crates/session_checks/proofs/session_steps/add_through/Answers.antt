use Rattle.std.proofs.Common.{arith}
use Rattle.trace_types.proofs.ShortLemmas.{requests_few}
use Rattle.session_checks.proofs.session_steps.add_through.Goals as goal

pub command-requires-clause-few : goal.command-requires-clause-few
command-requires-clause-few g c κs within = omega (arith, requests_few c.in-Some.parts, c.in-Some.ensures.few)

pub command-requires-clause-ready : goal.command-requires-clause-ready
command-requires-clause-ready g c κs within = let few = c.in-Some.ensures.few in (c.in-Some.ensures.timely, omega (arith, few))
