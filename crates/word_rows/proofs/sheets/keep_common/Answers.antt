use Rattle.std.proofs.Common.{arith}
use Rattle.word_rows.proofs.MeetLemmas.{common_by_and}
use Rattle.word_rows.proofs.sheets.keep_common.Goals as goal

pub returns : goal.returns
returns c = let inv = c.loop-index.invariant in
    common_by_and c.args.words.now c.args.others.now c.loop-index.words inv.long (λ k h. inv.met k (let long = c.loop-index.auto.words in omega arith))
