use Rattle.mystery_run.proofs.EndingLemmas.{opens_of}
use Rattle.mystery_run.proofs.laws.the_first_files_are_opened.Goals as goal

pub returns : goal.returns
returns c = λ o seen h. opens_of o seen h.reads
