use Rattle.std.proofs.Common.{refl}
use Rattle.mystery_run.specs.Messages.{status_of}
use Rattle.mystery_run.proofs.StatusLemmas.{arguments_of}
use Rattle.mystery_run.proofs.laws.arguments_outside_the_grammar_end_with_2.Goals as goal

pub returns : goal.returns
returns c = λ o seen h. arguments_of o seen (status_of o) refl h.reads
