use Rattle.std.proofs.Common.{refl}
use Rattle.event_table.specs.Digests.{digest_of}
use Rattle.event_table.proofs.digests.digest.Goals as goal

pub returns : goal.returns
unfolding digest_of
returns c = rw (c.finish.ensures, c.write.ensures, c.default-hasher.ensures) refl
