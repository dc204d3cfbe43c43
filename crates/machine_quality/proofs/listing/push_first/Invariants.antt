use Rattle.std.proofs.Common.{◌≡◌, length, take}
use Rattle.machine_quality.specs.inner.Numbered.{numbers_of}
use Rattle.machine_quality.proofs.SightLemmas.{AreFirstTo}
use Rattle.machine_quality.proofs.listing.push_first.Given as goal

-- the machines of the clocks so far, each once
abbrev pub invariant-loop-clock : goal.invariant-loop-clock
invariant-loop-clock l = record {
  first : AreFirstTo (numbers_of (take l.clock-index l.told)) l.machines.items l.is_seen;
  size : length l.is_seen ≡ length l.fn.is_seen;
}
