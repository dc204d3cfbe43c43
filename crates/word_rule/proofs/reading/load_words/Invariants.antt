use Rattle.std.proofs.Common.{◌≡◌, ℕ, ◌<◌, true, slice_index}
use Rattle.word_rows.specs.Words.{bit_of}
use Rattle.word_rule.specs.Shown.{shows}
use Rattle.word_rule.specs.Histories.{IsLoadBetween, KnowsMore, IsOnePast, read_until}
use Rattle.word_rule.proofs.ReadLemmas.{read_so_far}
use Rattle.word_rule.proofs.reading.load_words.Given as goal

abbrev pub ghosts-load_word : goal.ghosts-load_word
ghosts-load_word a = record { plan = a.shared.now.key }

abbrev pub invariant-loop-word : goal.invariant-loop-word
invariant-loop-word l = record {
  table : l.seat.table_id ≡ l.fn.seat.table_id;
  view : l.seat.me.0.view ≡ read_so_far l.fn.seat.me.0.view l.into l.word;
  held : l.seat.me.1 ≡ l.fn.seat.me.1;
  shown : (i b : ℕ) → i < l.word → b < 64 → shows l.fn.seat.me.0.view i b ≡ true → bit_of l.into i b ≡ 0;
  stands : (i : ℕ) → i < l.word → IsLoadBetween l.shared.key.width l.shared.key.all l.fn.seat.me.0.pasts (read_until l.fn.seat.me.0.view l.into i) i (slice_index l.into i) l.seat.me.0.pasts;
  more : KnowsMore l.fn.seat.me.0.pasts l.seat.me.0.pasts;
  one : 0 < l.word → IsOnePast l.seat.me.0.pasts;
}
