-- How many of what is counted in a list, of how many, and where the first is.
use Rattle.std.specs.Prelude.{ℕ, ◌≡◌, List, nat_lt, position, sum_by}
use Rattle.trace_quality.specs.declared.tallies.Tally.{Tally}

-- each element counts a part of a whole, and these are added up; the first that counts any is at
-- this index
pub record IsTally {X : Type 0} (part whole : X → ℕ) (xs : List X) (t : Tally) : Type 0 where
  pub count : t.count ≡ sum_by part xs
  pub of : t.of ≡ sum_by whole xs
  pub first : t.first ≡ position (λ x. nat_lt 0 (part x)) xs
