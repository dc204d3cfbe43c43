use Rattle.std.proofs.Common.{refl}
use Rattle.mystery_io.specs.Histories.{readings_of}
use Rattle.mystery_io.proofs.HonestLemmas.{gives_none}
use Rattle.mystery_io.proofs.mem_files.MemFiles.new.Goals as goal

pub returns : goal.returns
unfolding readings_of
returns c = rw c.new.ensures refl

pub invariant_of-result : goal.invariant_of-result
unfolding readings_of
invariant_of-result c = record { some = c.requires; honest = rw c.new.ensures (gives_none _ _ _ refl) }
