-- What a block ends as, once a `&mut` to its words has ended.
use Rattle.std.specs.Prelude.{ℕ, List, length}
use Rattle.std.specs.Borrow.{Fml, MutBor, Array, u64, Lends}
use Rattle.std.specs.List.{refill}
use Rattle.word_block.specs.contracts.block.WordBlock.{the_row}

-- the block ends with the last words behind r
abbrev pub lends_words : MutBor (List ℕ) → MutBor (List ℕ) → Fml
lends_words s r = Lends the_row (Array u64 0) s r (λ ws. refill (length s.now) s.now ws)
