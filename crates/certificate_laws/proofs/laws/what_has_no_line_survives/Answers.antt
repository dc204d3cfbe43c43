use Rattle.certificate_laws.proofs.SurvivingLemmas.{left_out_survives}
use Rattle.certificate_laws.proofs.laws.what_has_no_line_survives.Goals as goal

pub returns : goal.returns
returns c = λ kept refuted matter are none. left_out_survives c.names_are_totally_ordered.ensures.names kept refuted are matter none
