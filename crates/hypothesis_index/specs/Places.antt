-- Where the bit of a relation stands. Words and bits count from 0.
use Rattle.std.specs.Prelude.{◌≢◌, ◌<◌, nat_lt, if◌then◌else◌}
use Rattle.std.specs.Prelude.{ℕ, ◌+◌, ◌-◌, ◌*◌, ◌/◌, ◌%◌}
use Rattle.hypothesis_index.specs.declared.relation.Relation.{Relation}
use Rattle.hypothesis_index.specs.declared.relation.Relation.TheVariants.{Before, Exclusive, Apart}
use Rattle.hypothesis_index.specs.declared.relation.Relation.TheVariants.{Pipe, Unshared}
use Rattle.hypothesis_index.specs.declared.bit_place.BitPlace.{BitPlace}

-- the two numbers differ and are in range, and where their order does not matter the lesser is
-- first
abbrev pub IsRelation : Relation → Type 0
IsRelation (Before a b) = (a ≢ b) × (a < 512) × (b < 512)
IsRelation (Exclusive a b) = (a < b) × (b < 512)
IsRelation (Apart a b) = (a < b) × (b < 512)
IsRelation (Pipe t u) = (t ≢ u) × (t < 64) × (u < 64)
IsRelation (Unshared t u) = (t < u) × (u < 64)

-- the relation's names are below this number; a relation of tasks has none
abbrev pub NamesBelow : ℕ → Relation → Type 0
NamesBelow n (Before a b) = (a < n) × (b < n)
NamesBelow n (Exclusive a b) = b < n
NamesBelow n (Apart a b) = b < n
NamesBelow n (Pipe t u) = Unit {0}
NamesBelow n (Unshared t u) = Unit {0}

-- the number of pairs of different numbers below n
unfoldable pub pairs_below : ℕ → ℕ
pairs_below n = n * (n - 1) / 2

-- the number of the pair i < j, in the order (0, 1), (0, 2), (1, 2), (0, 3), (1, 3) and so on
abbrev pub pair_number : ℕ → ℕ → ℕ
pair_number i j = pairs_below j + i

-- each pair has four bits, one a kind, and sixteen pairs fill a word, from this word on
abbrev pub pair_place : ℕ → ℕ → ℕ → ℕ → BitPlace
pair_place begin i j kind =
    record { word = begin + pair_number i j / 16; bit = 4 * (pair_number i j % 16) + kind }

-- the pairs of tasks fill the words 0 to 125, and the pairs of names stand from word 126 on; the
-- last bit of a pair of tasks is no relation's
abbrev pub place_of : Relation → BitPlace
place_of (Before a b) = if nat_lt a b then pair_place 126 a b 0 else pair_place 126 b a 1
place_of (Exclusive a b) = pair_place 126 a b 2
place_of (Apart a b) = pair_place 126 a b 3
place_of (Pipe t u) = if nat_lt t u then pair_place 0 t u 0 else pair_place 0 u t 1
place_of (Unshared t u) = pair_place 0 t u 2

-- 126 words for the tasks, and one for each sixteen pairs of names, rounded up
abbrev pub width_of : ℕ → ℕ
width_of names = 126 + (pairs_below names + 15) / 16
