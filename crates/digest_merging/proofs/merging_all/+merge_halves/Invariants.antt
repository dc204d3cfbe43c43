use Rattle.std.proofs.Common.{length}
use Rattle.digest_merging.proofs.merging_all.+merge_halves.Given as goal

-- each half is shorter
abbrev pub decreases-merge_halves : goal.decreases-merge_halves
decreases-merge_halves l = length l.tables.now
