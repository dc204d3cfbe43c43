use Rattle.std.proofs.Common.{◌-◌, ◌<◌, length, ◌∙◌, arith}
use Rattle.event_table.specs.inner.Groups.{block_groups}
use Rattle.event_table.proofs.BlockLemmas.{left_first, left_later, left_length, left_within}
use Rattle.event_table.proofs.groups.group_at.Goals as goal

pub loop-left-preserved : goal.loop-left-preserved
loop-left-preserved c =
    let blocks = c.args.blocks.now in
    let at = c.loop-left.at in
    let inv = c.loop-left.invariant in
    let there = left_within blocks at c.loop-left.left inv.within in
    let block = c.index-blocks-at-in-loop-left in
    let first = left_length blocks at c.index-blocks-at.result there c.index-blocks-at.is in
    let long = left_length blocks at block.result there block.is in
    let past = c.loop-left-test.true in
    let count = c.len.ensures in
    let less = c.len-left.ensures in
    let within = inv.within in record {
      within = omega arith;
      same = inv.same ∙ left_later blocks at block.result there block.is c.loop-left.left (c.loop-left.left - c.len-left.result) (omega arith);
    }

pub returns : goal.returns
returns c =
    let blocks = c.args.blocks.now in
    let at = c.loop-left.at in
    let inv = c.loop-left.invariant in
    let there = left_within blocks at c.loop-left.left inv.within in
    let block = c.index-blocks-at-2 in
    let first = left_length blocks at c.index-blocks-at.result there c.index-blocks-at.is in
    let long = left_length blocks at block.result there block.is in
    let test = c.loop-left-test.false in
    let count = c.len.ensures in
    let here : c.loop-left.left < length (block_groups block.result) = omega arith in
    inv.same ∙ left_first blocks at block.result there block.is c.loop-left.left here ∙ c.group.ensures
