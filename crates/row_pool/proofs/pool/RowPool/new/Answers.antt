use Rattle.std.proofs.Common.{refl}
use Rattle.row_pool.proofs.SoundLemmas.{has-none}
use Rattle.row_pool.proofs.PoolLemmas.{pool_eq}
use Rattle.row_pool.proofs.pool.RowPool.new.Goals as goal

pub invariant_of-result : goal.invariant_of-result
invariant_of-result c = (has-none _ _ c.requires).sound

pub returns : goal.returns
returns c = pool_eq _ _ _ _ _ _ refl (has-none c.new.result c.args.width c.requires).rows refl
