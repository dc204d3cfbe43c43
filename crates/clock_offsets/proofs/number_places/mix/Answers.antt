use Rattle.std.proofs.Common.{refl}
use Rattle.clock_offsets.specs.inner.NumberChains.{mix_of}
use Rattle.clock_offsets.proofs.number_places.mix.Goals as goal

pub returns : goal.returns
unfolding mix_of
returns c = rw c.from.ensures refl
