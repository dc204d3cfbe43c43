use Rattle.std.proofs.Common.{◌≡◌, ℕ, ◌<◌, ◌&&◌, ◌==◌, take}
use Rattle.refute_tests.specs.inner.Marks.{has_mark, is_named}
use Rattle.refute_tests.proofs.tables.named_marks.Given as goal

abbrev pub invariant-loop-segment : goal.invariant-loop-segment
invariant-loop-segment l = (n c : ℕ) → c < 4 → has_mark l.marks n c ≡ ((c == 3) && is_named (take l.segment-index l.segments) n)
