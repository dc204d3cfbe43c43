use Rattle.std.proofs.Common.{ap, ◌*◌, ◌/◌, ℕ}
use Rattle.clock_offsets.specs.inner.Digests.{chain_of}
use Rattle.clock_offsets.proofs.digests.pick_chain.Goals as goal

pub returns-clause-chain : goal.returns-clause-chain
unfolding chain_of
returns-clause-chain c = ap (λ (d : ℕ). d * c.args.count / 18446744073709551616) c.from.ensures
