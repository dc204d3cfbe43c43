-- Weighted graphs whose vertices are numbered from 0, and whose edges lead to greater numbers.
use Rattle.std.specs.Prelude.{◌≡◌, ℕ, ◌^◌, ◌<◌, List, [], ◌∷◌, ◌++◌, length, replicate}
use Rattle.std.specs.Prelude.{slice_index, slice_index_or, slice_set, Contains}
use Rattle.std.specs.List.Sorted.{IsStrictlyIncreasing}

-- a weight for each vertex, and for each vertex the list of its successors
pub record Graph : Type 0 where
  pub weights : List ℕ
  pub successors : List (List ℕ)

-- how many vertices a graph has: they are the numbers below it
abbrev pub order_of : Graph → ℕ
order_of g = length g.weights

-- the weight of a vertex
abbrev pub weight_of : Graph → ℕ → ℕ
weight_of g v = slice_index g.weights v

-- the successors of a vertex; none of a number that is no vertex
abbrev pub successors_of : Graph → ℕ → List ℕ
successors_of g v = slice_index_or g.successors v []

-- an edge leads from a to b
abbrev pub IsEdge : Graph → ℕ → ℕ → Type 0
IsEdge g a b = Contains (successors_of g a) b

-- what each graph keeps: there are fewer than 2 ^ 32 vertices, each has its list of successors,
-- edges lead to later vertices, and each list of successors rises
pub record IsGraph (g : Graph) : Type 0 where
  pub small : order_of g < 2 ^ 32
  pub lists : length g.successors ≡ order_of g
  pub later : (a b : ℕ) → IsEdge g a b → a < b
  pub within : (a b : ℕ) → IsEdge g a b → b < order_of g
  pub rising : (a : ℕ) → IsStrictlyIncreasing (successors_of g a)

-- the graph that has these weights and no edge
abbrev pub edgeless : List ℕ → Graph
edgeless ws = record { weights = ws; successors = replicate (length ws) [] }

-- the graph with b as the last successor of a
abbrev pub with_edge : Graph → ℕ → ℕ → Graph
with_edge g a b =
    record {
      weights = g.weights;
      successors = slice_set g.successors a (successors_of g a ++ b ∷ []);
    }

-- the graph with the same edges and these weights
abbrev pub with_weights : Graph → List ℕ → Graph
with_weights g ws = record { weights = ws; successors = g.successors }
