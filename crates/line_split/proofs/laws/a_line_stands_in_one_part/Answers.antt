use Rattle.line_split.proofs.PartLemmas.{one_part, same_part}
use Rattle.line_split.proofs.laws.a_line_stands_in_one_part.Goals as goal

pub returns-clause-one : goal.returns-clause-one
returns-clause-one c = one_part

pub returns-clause-together : goal.returns-clause-together
returns-clause-together c = same_part
