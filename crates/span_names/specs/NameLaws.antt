-- What names keep of what they stand for: statements that laws prove.
use Rattle.std.specs.Prelude.{ℕ, ◌≡◌, ◌<◌, ◌^◌, List, Option, Some, None, IfSome}
use Rattle.span_names.specs.Names.{escaped, numbered}
use Rattle.span_names.specs.declared.piece.Piece.{Piece}

-- no two texts are escaped alike
abbrev pub EscapingIsOneToOne : Type 0
EscapingIsOneToOne = (first second : List ℕ) → escaped first ≡ escaped second → first ≡ second

-- the numbers of a piece have 64 bits
abbrev pub HasSize : Option Piece → Type 0
HasSize None = Unit {0}
HasSize (Some piece) = (piece.number < 2 ^ 64) × IfSome piece.gap (λ gap. gap < 2 ^ 64)

-- a name tells its base, its number and its piece
abbrev pub NumberingIsOneToOne : Type 0
NumberingIsOneToOne = (base other : List ℕ) (m n : ℕ) (p q : Option Piece)
    → m < 2 ^ 64 → n < 2 ^ 64 → HasSize p → HasSize q → numbered base m p ≡ numbered other n q
    → (base ≡ other) × (m ≡ n) × (p ≡ q)
