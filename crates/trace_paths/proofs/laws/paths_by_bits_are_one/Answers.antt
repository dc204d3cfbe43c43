use Rattle.model_meet.specs.RelationBits.{KeepsExclusion}
use Rattle.trace_types.specs.Parts.{by_number}
use Rattle.trace_graph.proofs.UniqueLemmas.{one_graph}
use Rattle.trace_paths.proofs.OnePathLemmas.{paths_one}
use Rattle.trace_paths.proofs.laws.paths_by_bits_are_one.Goals as goal

pub returns : goal.returns
returns c = λ words traces paths others all more.
    paths_one by_number (KeepsExclusion words) (λ trace order other one two f h a b. one_graph by_number c.a_list_is_told_in_one_way.ensures.listed (KeepsExclusion words) trace order other one two f h a b) traces paths others all more
