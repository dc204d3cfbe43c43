use Rattle.std.proofs.Common.{◌≡◌, ◌-◌, ◌++◌, ◌<◌, ◌≤◌, ◌*◌, ℕ, length}
use Rattle.word_rows.specs.Words.{full_words as full}
use Rattle.row_pool.specs.inner.Layout.{row_in}
use Rattle.row_pool.proofs.storage.Storage.widened.Given as goal

abbrev pub invariant-rows : goal.invariant-rows
invariant-rows l =
    record {
      size : l.rows * l.new ≤ length l.block;
      row : (q : ℕ) → q < l.row → row_in l.block l.new q ≡ row_in l.fn.self l.old q ++ full (l.new - l.old);
    }
