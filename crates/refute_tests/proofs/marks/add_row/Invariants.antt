use Rattle.std.proofs.Common.{◌≡◌, ℕ, ◌+◌, ◌-◌, ◌*◌, ◌<◌, ◌&&◌, ◌||◌, ◌==◌, nat_lt}
use Rattle.std.specs.Int.{bit_at}
use Rattle.hypothesis_index.specs.Places.{pairs_below}
use Rattle.refute_tests.specs.inner.Marks.{has_mark, in_row}
use Rattle.refute_tests.proofs.marks.add_row.Given as goal

abbrev pub invariant-loop-word : goal.invariant-loop-word
invariant-loop-word l = record {
  added : (p c : ℕ) → c < 4 → has_mark l.table p c ≡ (has_mark l.fn.table p c || (nat_lt p (16 * l.word) && (in_row l.greater p && has_mark l.marks (p - pairs_below l.greater) c)));
  carried : (k c : ℕ) → k < 16 → c < 4 → (bit_at l.carry (4 * k + c) == 1) ≡ (nat_lt (4 * k) l.shift && (in_row l.greater (16 * l.word + k) && has_mark l.marks (16 * l.word + k - pairs_below l.greater) c));
}
