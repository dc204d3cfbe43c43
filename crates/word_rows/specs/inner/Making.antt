-- What a row keeps while it is made.
use Rattle.std.specs.Prelude.{◌≡◌, ℕ, true, List, []}
use Rattle.word_rows.specs.declared.entries.Entry.{Entry}
use Rattle.word_rows.specs.Rows.{is_ascending, below}

-- the finished entries rise below the current word, whose mask is 0 only where nothing was cleared
-- yet
pub record IsMaking (finished : List Entry) (word mask : ℕ) : Type 0 where
  pub ascending : is_ascending finished ≡ true
  pub under : below word finished ≡ true
  pub first : mask ≡ 0 → (finished ≡ []) × (word ≡ 0)
