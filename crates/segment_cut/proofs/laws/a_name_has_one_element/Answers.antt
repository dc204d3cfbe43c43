use Rattle.segment_cut.proofs.GivenLemmas.{given_element}
use Rattle.segment_cut.proofs.UniqueListLemmas.{one_element}
use Rattle.segment_cut.proofs.laws.a_name_has_one_element.Goals as goal

pub returns-clause-given : goal.returns-clause-given
returns-clause-given c = given_element

pub returns-clause-one : goal.returns-clause-one
returns-clause-one c = one_element
