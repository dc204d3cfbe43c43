use Rattle.word_rows.specs.Words.{full_words as full}
use Rattle.row_pool.proofs.MapLemmas.{get-insert_other, get-remove_other}
use Rattle.row_pool.proofs.laws.other_rows_stay.Goals as goal

pub returns : goal.returns
returns c = λ p id words other apart. (get-insert_other p.rows id words other apart, get-insert_other p.rows id (full p.width) other apart, get-remove_other p.rows id other apart)
