use Rattle.trace_pass.proofs.LawLemmas.{zeros_are_count}
use Rattle.trace_pass.proofs.laws.zeros_are_count.Goals as goal

pub returns : goal.returns
returns c = zeros_are_count c.places_differ.ensures c.places_fit.ensures
