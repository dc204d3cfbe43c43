-- Texts by their numbers in a table, which are counted from 0.
use Rattle.std.specs.Prelude.{ℕ, ◌≢◌, List, AllPairs}

-- the texts of events, each kind in a table of its own
pub record TextLists : Type 0 where
  pub requests : List (List ℕ)
  pub machines : List (List ℕ)
  pub tasks : List (List ℕ)
  pub names : List (List ℕ)

-- the messages of events: those that were sent, and those that were received
pub record MessageLists : Type 0 where
  pub sends : List (List ℕ)
  pub receipts : List (List ℕ)

-- no element stands twice
abbrev pub AreDifferent : {X : Type 0} → List X → Type 0
AreDifferent xs = AllPairs (λ x y. x ≢ y) xs
