use Rattle.std.proofs.Common.{◌∙◌, ◌+◌, ap, ℕ}
use Rattle.indexmap.specs.IndexMap.{get_by}
use Rattle.trace_groups.proofs.CountLemmas.{counted_key}
use Rattle.trace_groups.proofs.counts.count_key.Goals as goal

pub returns : goal.returns
returns g c = counted_key g.K.PartialEq.eq g.met.K.Eq.laws c.args.key (c.count_of-count.result + 1) (λ p. get_by p c.args.counts.now) _ (λ q. c.in_ok-insert.ensures.updates.0 q) (ap (λ (n : ℕ). n + 1) c.count_of-count.ensures)
