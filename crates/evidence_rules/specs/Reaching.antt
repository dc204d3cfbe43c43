-- What reaches what over rows from one to another, and which rows are implied by others.
use Rattle.std.specs.Prelude.{◌≡◌, List, [], ◌∷◌, Contains}

-- a chain of rows leads from the one over these in turn to the other
abbrev pub IsChain : {X : Type 0} → List (X × X) → X → List X → X → Type 0
IsChain rows a [] b = a ≡ b
IsChain rows a (x ∷ xs) b = Contains rows (a, x) × IsChain rows x xs b

-- the one is the other, or a chain of rows leads from it to the other
abbrev pub Reaches : {X : Type 0} → List (X × X) → X → X → Type 0
Reaches {X} rows a b = (chain : List X) × IsChain rows a chain b

-- a chain of rows leads from the one to the other through a third component: through one that
-- neither reaches the first nor is reached from the second. Two of one strongly connected component
-- have no such chain.
pub record IsImplied {X : Type 0} (rows : List (X × X)) (a b : X) : Type 0 where
  pub through : X
  pub to : Reaches rows a through
  pub from : Reaches rows through b
  pub leaves : Reaches rows through a → ⊥
  pub enters : Reaches rows b through → ⊥
