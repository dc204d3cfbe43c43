use Rattle.std.proofs.Common.{refl}
use Rattle.mystery_io.specs.Histories.{readings_of}
use Rattle.mystery_io.proofs.real_files.RealFiles.new.Goals as goal

pub returns-clause-empty : goal.returns-clause-empty
unfolding readings_of
returns-clause-empty g c = refl
