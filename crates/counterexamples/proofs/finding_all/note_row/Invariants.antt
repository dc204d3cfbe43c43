use Rattle.std.proofs.Common.{◌≡◌, ℕ, ◌<◌, cond, length, take, Some}
use Rattle.std.specs.Option.{option_or}
use Rattle.word_rows.specs.Rows.{clears}
use Rattle.counterexamples.specs.inner.Tables.{noted_at}
use Rattle.counterexamples.proofs.finding_all.note_row.Given as goal

-- the entries so far are noted
abbrev pub invariant-entries : goal.invariant-entries
invariant-entries l = record {
  long : length l.words ≡ length l.fn.words;
  each : (i b : ℕ) → i < length l.fn.words → b < 64 → noted_at l.words i b ≡ cond (clears (take l.entry-index l.row) i b) (option_or (noted_at l.fn.words i b) (Some l.finding)) (noted_at l.fn.words i b);
}
