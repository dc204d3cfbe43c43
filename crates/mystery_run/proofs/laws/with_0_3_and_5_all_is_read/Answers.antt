use Rattle.std.proofs.Common.{refl}
use Rattle.mystery_run.specs.Messages.{status_of}
use Rattle.mystery_run.proofs.StatusLemmas.{reads_of}
use Rattle.mystery_run.proofs.laws.with_0_3_and_5_all_is_read.Goals as goal

pub returns : goal.returns
returns c = λ o seen h k. reads_of o seen (status_of o) refl h.reads k
