use Rattle.std.proofs.Common.{ap}
use Rattle.word_rows.specs.Words.{full_words as full}
use Rattle.row_pool.specs.Pools.{row_at, words_or_none}
use Rattle.row_pool.proofs.CallerLemmas.{row_at-same}
use Rattle.row_pool.proofs.MapLemmas.{get-insert_same, get-remove_same}
use Rattle.row_pool.proofs.laws.one_row_changes.Goals as goal

pub returns : goal.returns
unfolding row_at
returns c = λ p id words. (row_at-same p id words, ap words_or_none (get-insert_same p.rows id (full p.width)), get-remove_same p.rows id)
