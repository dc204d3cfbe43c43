use Rattle.std.proofs.Common.{◌≡◌, ◌++◌}
use Rattle.ranking_picture.specs.Rankings.{IsRanking}
use Rattle.ranking_picture.specs.Tables.{ranking_text}
use Rattle.ranking_picture.proofs.RankLemmas.{told_ranked}
use Rattle.ranking_picture.proofs.rows.push_ranking.Goals as goal

pub returns : goal.returns
returns c =
    told_ranked c.push_ranked.result (IsRanking c.args.page.now) (λ ranking. c.push_ranked.new.bytes.items ≡ c.args.bytes.now.items ++ ranking_text c.args.page.now ranking) c.in_ok-ranking.ranking.items c.in_ok-ranking.ensures
    (rw c.deref.ensures.value at c.push_ranked.ensures)
