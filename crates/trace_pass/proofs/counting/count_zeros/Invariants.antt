use Rattle.std.proofs.Common.{◌≡◌, ◌≤◌, ◌*◌, take}
use Rattle.trace_pass.specs.Counts.{zeros}
use Rattle.trace_pass.proofs.counting.count_zeros.Given as goal

abbrev pub invariant-loop-word : goal.invariant-loop-word
invariant-loop-word l = record { counted : l.all ≡ zeros (take l.word-index l.words); bound : l.all ≤ 64 * l.word-index }
