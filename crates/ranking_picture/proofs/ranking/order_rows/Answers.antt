use Rattle.std.proofs.Common.{rules}
use Rattle.ranking_picture.proofs.RankLemmas.{in_order}
use Rattle.ranking_picture.proofs.ranking.order_rows.Goals as goal

pub returns-clause-sorted : goal.returns-clause-sorted
returns-clause-sorted c = in_order _ c.in_ok-sort_by_key.ensures.sorted (λ a r q k. search rules)
