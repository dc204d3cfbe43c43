use Rattle.std.proofs.Common.{◌≡◌, ℕ, ◌<◌, ◌≤◌, length, slice_index, bit_and}
use Rattle.word_rows.proofs.sheets.keep_common.Given as goal

abbrev pub invariant-loop-index : goal.invariant-loop-index
invariant-loop-index l = record {
  long : length l.words ≡ length l.fn.words;
  met : (k : ℕ) → k < l.index → slice_index l.words k ≡ bit_and (slice_index l.fn.words k) (slice_index l.fn.others k);
  left : (k : ℕ) → l.index ≤ k → slice_index l.words k ≡ slice_index l.fn.words k;
}
