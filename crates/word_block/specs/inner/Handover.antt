-- What ties the base, the places and the deed of a block that is taken or given back.
use Rattle.std.specs.Prelude.{◌≡◌, ℕ, length, replicate, None}
use Rattle.word_block.specs.declared.places.Base.{Base}
use Rattle.word_block.specs.declared.places.Deed.{Deed}
use Rattle.word_block.specs.declared.places.Places.{Places}

module _ {A : Type 0} where
  -- they are of one block from this allocator, whose len places are empty
  abbrev pub IsNew : ℕ → A → Base → Places → Deed A → Type 0
  IsNew len alloc base places deed =
      (places.at ≡ base.ptr) × (places.held ≡ replicate len None) × (deed.at ≡ base.ptr)
      × (deed.len ≡ len) × (deed.alloc ≡ alloc)

  -- they are of one block from this allocator, and the places are all its len places
  abbrev pub IsWhole : ℕ → A → Base → Places → Deed A → Type 0
  IsWhole len alloc base places deed =
      (places.at ≡ base.ptr) × (length places.held ≡ len) × (deed.at ≡ base.ptr)
      × (deed.len ≡ len) × (deed.alloc ≡ alloc)
