-- The entries of a table of messages, oldest first, and the chains by which a message is found.
use Rattle.std.specs.Prelude.{◌≡◌, ◌≢◌, ℕ, ◌+◌, ◌<◌, ◌≤◌, List, map, length, slice_index_or}
use Rattle.std.specs.Prelude.{reverse}
use Rattle.clock_offsets.specs.declared.message_entry.MessageEntry.{MessageEntry}
use Rattle.clock_offsets.specs.inner.MessagePlaces.{MessagePlace}
use Rattle.event_table.specs.Digests.{digest_of}
use Rattle.clock_offsets.specs.inner.Digests.{chain_of}

-- what an entry says
abbrev pub message_place : MessageEntry → MessagePlace
message_place e = record { message = e.message.now; place = e.place }

-- what the entries say, the newest first
abbrev pub newest_first : List MessageEntry → List MessagePlace
newest_first entries = reverse (map message_place entries)

-- the chain of the entry at an index, of so many chains
abbrev pub chain_at : ℕ → List MessageEntry → ℕ → ℕ
chain_at count entries i =
    chain_of count (slice_index_or (map (λ (e : MessageEntry). e.digest) entries) i 0)

-- what the entry at an index has for the next older one of its chain
abbrev pub older_at : List MessageEntry → ℕ → ℕ
older_at entries i = slice_index_or (map (λ (e : MessageEntry). e.older) entries) i 0

-- top is one more than the index of the newest of the first n entries in this chain, or 0
pub record IsTop (count : ℕ) (entries : List MessageEntry) (chain n top : ℕ) : Type 0 where
  pub within : top ≤ n
  pub newest : (i : ℕ) → top ≤ i → i < n → chain_at count entries i ≢ chain
  pub here : (i : ℕ) → i + 1 ≡ top → chain_at count entries i ≡ chain

-- each chain leads through its entries from the newest to the oldest
pub record IsChained (chains : List ℕ) (entries : List MessageEntry) : Type 0 where
  pub some : 0 < length chains
  pub newest : (chain : ℕ) → chain < length chains
      → IsTop (length chains) entries chain (length entries) (slice_index_or chains chain 0)
  pub older : (i : ℕ) → i < length entries
      → IsTop (length chains) entries (chain_at (length chains) entries i) i (older_at entries i)

-- each entry has the digest of its message
abbrev pub AreDigested : List MessageEntry → Type 0
AreDigested entries = (i : ℕ) (e : MessageEntry) → i < length entries
    → e ≡ slice_index_or entries i e → e.digest ≡ digest_of e.message.now

-- a table of few messages has no chains
pub record IsTable (chains : List ℕ) (entries : List MessageEntry) : Type 0 where
  pub digests : AreDigested entries
  pub chained : 0 < length chains → IsChained chains entries
