-- What groups are: statements that laws prove.
use Rattle.std.specs.Prelude.{ℕ, ◌≡◌, ◌<◌, ◌≤◌, List, All, length, slice_index}
use Rattle.linked_groups.specs.Groups.{AreLinksBelow, groups_of}

-- the groups of the numbers below a bound by links. A group is named by the least number in it. The
-- ends of a link are in one group; and two numbers are in one group only where links join them:
-- whatever is the same at both ends of each link is the same at all numbers of a group.
pub record AreGroups (count : ℕ) (links : List (ℕ × ℕ)) (groups : List ℕ) : Type 0 where
  pub size : length groups ≡ count
  pub low : (x : ℕ) → x < count → slice_index groups x ≤ x
  pub named : (x : ℕ) → x < count
      → slice_index groups (slice_index groups x) ≡ slice_index groups x
  pub linked : All (λ (l : ℕ × ℕ). slice_index groups l.0 ≡ slice_index groups l.1) links
  pub alone : (f : ℕ → ℕ) → All (λ (l : ℕ × ℕ). f l.0 ≡ f l.1) links → (x y : ℕ) → x < count
      → y < count → slice_index groups x ≡ slice_index groups y → f x ≡ f y

-- a link joins groups, and nothing else does
abbrev pub LinksAloneJoin : Type 0
LinksAloneJoin = (count : ℕ) (links : List (ℕ × ℕ)) → AreLinksBelow count links
    → AreGroups count links (groups_of count links)

-- links group numbers in one way
abbrev pub GroupsAreOne : Type 0
GroupsAreOne = (count : ℕ) (links : List (ℕ × ℕ)) (groups others : List ℕ)
    → AreGroups count links groups → AreGroups count links others → groups ≡ others
