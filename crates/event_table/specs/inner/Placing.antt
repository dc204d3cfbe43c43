-- Events in groups of one request each.
use Rattle.std.specs.Prelude.{ℕ, ◌≡◌, ◌<◌, ◌≤◌, ◌+◌, ◌==◌, List, [], ◌∷◌, length, map}
use Rattle.std.specs.Prelude.{filter, false, nat_eq}
use Rattle.std.specs.Prelude.{All, slice_index, take, drop}
use Rattle.std.specs.List.{list_any}
use Rattle.trace_types.specs.Firsts.{firsts_of}
use Rattle.event_table.specs.Texts.{AreDifferent}
use Rattle.event_table.specs.declared.event_numbers.EventNumbers.{EventNumbers}

-- what stands for the place of a request whose events stand elsewhere; all places are below it
abbrev pub no_place : ℕ
no_place = 4294967295

-- the events of the request with this number, in their order
abbrev pub with_request : List EventNumbers → ℕ → List EventNumbers
with_request events request = filter (λ (e : EventNumbers). e.request == request) events

-- the requests of events, each once, in the order of their first events
abbrev pub request_numbers : List EventNumbers → List ℕ
request_numbers events = firsts_of nat_eq (map (λ (e : EventNumbers). e.request) events)

-- the events of each of these requests
abbrev pub groups_of : List EventNumbers → List ℕ → List (List EventNumbers)
groups_of events requests = map (with_request events) requests

-- the requests of the events have numbers below this
abbrev pub HaveRequestsBelow : ℕ → List EventNumbers → Type 0
HaveRequestsBelow count events = All (λ (e : EventNumbers). e.request < count) events

-- each request has this many events
abbrev pub AreCounts : List EventNumbers → List ℕ → Type 0
AreCounts events counts = (request : ℕ) → request < length counts
    → slice_index counts request ≡ length (with_request events request)

-- these are the requests of the events, and so many events has each
pub record AreCounted (events : List EventNumbers) (requests counts : List ℕ) : Type 0 where
  pub order : requests ≡ request_numbers events
  pub each : AreCounts events counts

-- the events are counted, and these are different numbers below that of the counts
pub record AreSome (events : List EventNumbers) (counts requests : List ℕ) : Type 0 where
  pub below : HaveRequestsBelow (length counts) events
  pub few : length events ≤ no_place
  pub each : AreCounts events counts
  pub apart : AreDifferent requests
  pub within : All (λ r. r < length counts) requests

-- each request has its start: the groups stand one after another, in this order
abbrev pub AreStarts : (ℕ → ℕ) → List ℕ → ℕ → List ℕ → Type 0
AreStarts size starts start [] = Unit {0}
AreStarts size starts start (request ∷ requests) =
    (request < length starts) × (slice_index starts request ≡ start)
    × AreStarts size starts (start + size request) requests

-- other requests have no place
abbrev pub AreNowhere : List ℕ → List ℕ → Type 0
AreNowhere requests places = (request : ℕ) → request < length places
    → list_any (nat_eq request) requests ≡ false → slice_index places request ≡ no_place

-- where the groups end
abbrev pub ends_from : (ℕ → ℕ) → ℕ → List ℕ → List ℕ
ends_from size start [] = []
ends_from size start (request ∷ requests) =
    (start + size request) ∷ ends_from size (start + size request) requests

-- of all events the first ones are in their places: each group is filled from its start on, and the
-- next event of a request has its next place
abbrev pub AreFilled : (done all : List EventNumbers) (next : List ℕ) (out : List EventNumbers)
    → ℕ → List ℕ → Type 0
AreFilled done all next out start [] = start ≤ length out
AreFilled done all next out start (request ∷ requests) =
    (request < length next)
    × (slice_index next request ≡ start + length (with_request done request))
    × (take (length (with_request done request)) (drop start out) ≡ with_request done request)
    × AreFilled done all next out (start + length (with_request all request)) requests

-- the first events of these requests are in their places, and each of their events has a place
pub record IsPlacing (done all : List EventNumbers) (requests next : List ℕ)
    (out : List EventNumbers) : Type 0 where
  pub apart : AreDifferent requests
  pub below : HaveRequestsBelow (length next) all
  pub nowhere : AreNowhere requests next
  pub filled : AreFilled done all next out 0 requests
  pub few : length out ≤ no_place
