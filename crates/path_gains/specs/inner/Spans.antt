-- Numbers of which a whole span can be raised at once: the block with the place level * count +
-- index has the 2 ^ level numbers from the index on, and none where these are not all below the
-- count. Private contracts alone cite this file.
use Rattle.std.specs.Prelude.{◌≡◌, ℕ, zero, suc, ◌+◌, ◌*◌, ◌/◌, ◌%◌, ◌^◌, ◌<◌, ◌≤◌, max, nat_le, nat_lt}
use Rattle.std.specs.Prelude.{Bool, true, false, ◌&&◌, if◌then◌else◌, List, length, slice_index, ◌⊎◌}

-- whether the block with this place has v, among so many numbers
abbrev pub has_block : ℕ → ℕ → ℕ → Bool
has_block count place v =
    nat_le (place % count) v && (nat_lt v (place % count + 2 ^ (place / count))
    && nat_le (place % count + 2 ^ (place / count)) count)

-- the greatest number of the first so many blocks that have v; of none 0
abbrev pub shown_of : ℕ → List ℕ → ℕ → ℕ → ℕ
shown_of count blocks v zero = 0
shown_of count blocks v (suc place) =
    max (shown_of count blocks v place)
    (if has_block count place v then slice_index blocks place else 0)

-- the number of v: the greatest of the blocks that have it
abbrev pub shown_at : ℕ → List ℕ → ℕ → ℕ
shown_at count blocks v = shown_of count blocks v (length blocks)

-- the number of v was raised to the least where v is in the span from low to before high, and else
-- stayed
abbrev pub RaisesIn : ℕ → ℕ → ℕ → ℕ → ℕ → ℕ → Type 0
RaisesIn low high least v old new =
    ((low ≤ v) × (v < high) × (new ≡ max old least)) ⊎ (((v < low) ⊎ (high ≤ v)) × (new ≡ old))

-- the blocks of each size that is not above the count have their places, on at most 64 levels
pub record HaveRoom (count places : ℕ) : Type 0 where
  pub small : count < 2 ^ 32
  pub levels : (level : ℕ) → 2 ^ level ≤ count → level * count + count ≤ places
  pub few : places ≤ 64 * count

-- the number of v was raised to the least where the block with this place has v, and else stayed
abbrev pub RaisesBlock : ℕ → ℕ → ℕ → ℕ → ℕ → ℕ → Type 0
RaisesBlock count place least v old new =
    ((has_block count place v ≡ true) × (new ≡ max old least))
    ⊎ ((has_block count place v ≡ false) × (new ≡ old))
