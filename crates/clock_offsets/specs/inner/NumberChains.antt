-- The entries of a table of numbers, oldest first, and the chains by which a number is found.
use Rattle.std.specs.Prelude.{◌≡◌, ◌≢◌, ℕ, ◌+◌, ◌*◌, ◌%◌, ◌^◌, ◌<◌, ◌≤◌, List, map, length}
use Rattle.std.specs.Prelude.{slice_index_or, reverse}
use Rattle.clock_offsets.specs.declared.number_entry.NumberEntry.{NumberEntry}
use Rattle.clock_offsets.specs.NumberPlaces.{NumberPlace}
use Rattle.clock_offsets.specs.inner.Digests.{chain_of}

-- 64 bits that tell most numbers and groups apart
unfoldable pub mix_of : ℕ → ℕ → ℕ
mix_of group number =
    ((((group * 0x9e37_79b9_7f4a_7c15) % 2 ^ 64 + number) % 2 ^ 64) * 0x9e37_79b9_7f4a_7c15)
    % 2 ^ 64

-- what an entry says
abbrev pub number_place : NumberEntry → NumberPlace
number_place e = record { group = e.group; number = e.number; place = e.place }

-- what the entries say, the newest first
abbrev pub newest_first : List NumberEntry → List NumberPlace
newest_first entries = reverse (map number_place entries)

-- the chain of an entry, of so many chains
abbrev pub own_chain : ℕ → NumberEntry → ℕ
own_chain count e = chain_of count (mix_of e.group e.number)

-- the chain of the entry at an index
abbrev pub chain_at : ℕ → List NumberEntry → ℕ → ℕ
chain_at count entries i = slice_index_or (map (own_chain count) entries) i 0

-- what the entry at an index has for the next older one of its chain
abbrev pub older_at : List NumberEntry → ℕ → ℕ
older_at entries i = slice_index_or (map (λ (e : NumberEntry). e.older) entries) i 0

-- top is one more than the index of the newest of the first n entries in this chain, or 0
pub record IsTop (count : ℕ) (entries : List NumberEntry) (chain n top : ℕ) : Type 0 where
  pub within : top ≤ n
  pub newest : (i : ℕ) → top ≤ i → i < n → chain_at count entries i ≢ chain
  pub here : (i : ℕ) → i + 1 ≡ top → chain_at count entries i ≡ chain

-- each chain leads through its entries from the newest to the oldest
pub record IsChained (chains : List ℕ) (entries : List NumberEntry) : Type 0 where
  pub some : 0 < length chains
  pub newest : (chain : ℕ) → chain < length chains
      → IsTop (length chains) entries chain (length entries) (slice_index_or chains chain 0)
  pub older : (i : ℕ) → i < length entries
      → IsTop (length chains) entries (chain_at (length chains) entries i) i (older_at entries i)

-- a table of few numbers has no chains
abbrev pub IsTable : List ℕ → List NumberEntry → Type 0
IsTable chains entries = 0 < length chains → IsChained chains entries
