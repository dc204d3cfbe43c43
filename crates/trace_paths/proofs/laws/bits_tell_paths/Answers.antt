use Rattle.trace_paths.proofs.UnderLemmas.{bits_told}
use Rattle.trace_paths.proofs.laws.bits_tell_paths.Goals as goal

pub returns : goal.returns
returns c = bits_told c.bits_tell_graphs.ensures
