use Rattle.mystery_run.proofs.StatusLemmas.{no_files}
use Rattle.mystery_run.proofs.laws.arguments_outside_the_grammar_name_no_file.Goals as goal

pub returns : goal.returns
returns c = no_files
