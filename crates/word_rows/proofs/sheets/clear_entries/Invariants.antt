use Rattle.std.proofs.Common.{◌≡◌, ℕ, ◌<◌, cond, length, take}
use Rattle.word_rows.specs.Rows.{clears}
use Rattle.word_rows.specs.Words.{bit_of}
use Rattle.word_rows.proofs.sheets.clear_entries.Given as goal

abbrev pub invariant-loop-entry : goal.invariant-loop-entry
invariant-loop-entry l = record {
  long : length l.words ≡ length l.fn.words;
  met : (i b : ℕ) → i < length l.fn.words → b < 64 → bit_of l.words i b ≡ cond (clears (take l.entry-index l.entries) i b) 0 (bit_of l.fn.words i b);
}
