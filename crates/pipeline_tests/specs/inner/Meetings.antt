-- Elements that two tasks both handle.
use Rattle.std.specs.Prelude.{◌≡◌, ◌⊎◌, ℕ, ◌<◌, ◌≤◌, ◌==◌, Bool, ◌&&◌, not, nat_lt, List, length, slice_index_or}
use Rattle.std.specs.List.{Contains, list_any}
use Rattle.pipeline_tests.specs.declared.meetings.Sharing.{Sharing}
use Rattle.pipeline_tests.specs.declared.stays.Stay.{Stay}
use Rattle.refute_tests.specs.Clearing.{starts_early}

-- an element that two tasks handle: where the task of the lesser number does, and where the other
pub record Meeting : Type 0 where
  pub low : Stay
  pub high : Stay

-- the pairs of a stay of the first list and one of the second with the same element
pub record AreMeetings (low high : List Stay) (met : List Meeting) : Type 0 where
  pub lows : (m : Meeting) → Contains met m → Contains low m.low
  pub highs : (m : Meeting) → Contains met m → Contains high m.high
  pub same : (m : Meeting) → Contains met m → m.low.element ≡ m.high.element
  pub complete : (x y : Stay) → Contains low x → Contains high y → x.element ≡ y.element
      → Contains met (record { low = x; high = y })

-- the stay at k is of the element
pub record IsStayOf (stays : List Stay) (e k : ℕ) : Type 0 where
  pub within : k < length stays
  pub element : (d : Stay) → (slice_index_or stays k d).element ≡ e

-- the taker starts on the element before the giver is done with it, by more than the grace
abbrev pub takes_early : ℕ → Stay → Stay → Bool
takes_early grace giver taker = starts_early grace taker.first giver.last

-- the lower task starts on the first of two elements before the second, the higher after it
abbrev pub turned : Meeting → Meeting → Bool
turned m n = nat_lt m.low.begin n.low.begin && nat_lt n.high.begin m.high.begin

-- some two of the elements are started on in different orders
abbrev pub turns : List Meeting → Bool
turns met = list_any (λ (m : Meeting). list_any (λ (n : Meeting). turned m n) met) met

-- what these elements show
pub record IsSharing (grace : ℕ) (met : List Meeting) (s : Sharing) : Type 0 where
  pub shared : s.shared ≡ not (length met == 0)
  pub turned : s.turned ≡ turns met
  pub upward : s.upward ≡ list_any (λ (m : Meeting). takes_early grace m.low m.high) met
  pub downward : s.downward ≡ list_any (λ (m : Meeting). takes_early grace m.high m.low) met
  pub most : (m : Meeting) → Contains met m → m.high.begin ≤ s.latest
  pub reached : (s.latest ≡ 0) ⊎ ((m : Meeting) × Contains met m × (m.high.begin ≡ s.latest))
