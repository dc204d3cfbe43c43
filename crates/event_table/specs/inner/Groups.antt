-- The groups of blocks of events.
use Rattle.std.specs.Prelude.{List}
use Rattle.std.specs.List.{flat_map}
use Rattle.event_table.specs.declared.block.Block.{Block}
use Rattle.event_table.specs.declared.event_numbers.EventNumbers.{EventNumbers}
use Rattle.event_table.specs.inner.Cuts.{cut_at}

-- the groups of a block
abbrev pub block_groups : Block → List (List EventNumbers)
block_groups block = cut_at 0 block.ends.items block.events.items

-- the groups of blocks, one block after another
abbrev pub groups_of_blocks : List Block → List (List EventNumbers)
groups_of_blocks blocks = flat_map block_groups blocks
