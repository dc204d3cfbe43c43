use Rattle.std.proofs.Common.{arith}
use Rattle.event_table.proofs.CutLemmas.{cut_length}
use Rattle.event_table.proofs.block.Block.len.Goals as goal

pub returns : goal.returns
returns c =
    let block = c.args.self.now in
    let count = cut_length 0 block.ends.items block.events.items in
    let fits = block.ends.ok in
    let told = c.len.ensures in
    omega arith
