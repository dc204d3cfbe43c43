use Rattle.step_core.proofs.CuttingLemmas.{cut_found, cut_nowhere}
use Rattle.step_core.proofs.cutting.first_part.Goals as goal

pub returns-in-Some-clause-parts : goal.returns-in-Some-clause-parts
returns-in-Some-clause-parts c = cut_found _ c.args.bytes.now c.in-Some.end c.in-Some.ensures

pub returns-in-None-clause-parts : goal.returns-in-None-clause-parts
returns-in-None-clause-parts c = cut_nowhere _ c.args.bytes.now c.in-None.ensures
