use Rattle.mystery_run.proofs.DecidedLemmas.{decided_by}
use Rattle.mystery_run.proofs.laws.a_run_is_decided.Goals as goal

pub returns : goal.returns
returns c = λ o seen h. decided_by c.an_input_has_one_ending.ensures seen.files seen.words seen.written_before seen.written_now o h.ends
