use Rattle.word_rows.proofs.RowLemmas.{goes_on_all}
use Rattle.word_rows.proofs.entries.ascends.Goals as goal

pub loop-entry-init : goal.loop-entry-init
loop-entry-init c = goes_on_all c.args.entries.now
