use Rattle.std.proofs.Common.{refl}
use Rattle.mystery_io.specs.Taken.{bytes_of}
use Rattle.mystery_io.proofs.real_sink.RealSink.new.Goals as goal

pub returns-clause-empty : goal.returns-clause-empty
unfolding bytes_of
returns-clause-empty g c = refl
