-- Names of contexts with words behind them.
use Rattle.std.specs.Prelude.{ℕ, ◌≡◌, ◌++◌, List, codes, map}

-- the names of the starts and of the ends of contexts with these names
pub record AreLabelled (labels starts ends : List (List ℕ)) : Type 0 where
  pub at_start : starts ≡ map (λ (l : List ℕ). l ++ codes " start") labels
  pub at_end : ends ≡ map (λ (l : List ℕ). l ++ codes " end") labels
