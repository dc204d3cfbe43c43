-- How the fields of a block fit together.
use Rattle.std.specs.Prelude.{◌≡◌, ℕ, List}
use Rattle.word_block.specs.inner.Filling.{words_of, IsFilled}
use Rattle.word_block.specs.declared.block.WordBlock.TheInside.{Inside}

-- the words in its places
abbrev pub block_words : Inside → List ℕ
block_words a = words_of a.places.held

-- the places and the deed are of the block at the base, and each place holds a word
pub record IsBlock (a : Inside) : Type 0 where
  pub at : a.places.at ≡ a.base.ptr
  pub deed : (a.deed.at ≡ a.base.ptr) × (a.deed.len ≡ a.len) × (a.deed.alloc ≡ a.alloc)
  pub filled : IsFilled a.len a.places.held
