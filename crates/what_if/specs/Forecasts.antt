-- How long a trace's critical path would be if segments of some names took less time. This is the
-- project's own. Times are in nanoseconds.
use Rattle.std.specs.Prelude.{◌≡◌, ℕ, ◌*◌, ◌/◌, ◌<◌, ◌==◌, if◌then◌else◌, List, [], ◌∷◌, length}
use Rattle.std.specs.Prelude.{All}
use Rattle.std.specs.Prelude.{slice_get, slice_index, Some}
use Rattle.trace_rules.specs.declared.forecast.Forecast.{Forecast}
use Rattle.trace_types.specs.declared.named_segment.NamedSegment.{NamedSegment}
use Rattle.weighted_dag.specs.Chains.{IsLongestLength}
use Rattle.weighted_dag.specs.Graphs.{Graph, order_of, with_weights}
use Rattle.what_if.specs.declared.change.Change.{Change}

-- how long a segment of this name would take that now takes so long, rounded down; of changes of
-- one name the first holds, and a name without a change keeps its time
abbrev pub changed_time : List Change → ℕ → ℕ → ℕ
changed_time [] name time = time
changed_time (c ∷ cs) name time =
    if c.name == name then time * c.num / c.den else changed_time cs name time

-- the vertices stand for the segments at these indices, each of which is one of the list
pub record HasSegments (segments : List NamedSegment) (order : List ℕ) (g : Graph) : Type 0 where
  pub count : length order ≡ order_of g
  pub within : All (λ i. i < length segments) order

-- the weight of each vertex under the changes
pub record AreChanged (segments : List NamedSegment) (order : List ℕ) (changes : List Change)
    (old new : List ℕ) : Type 0 where
  pub count : length new ≡ length old
  pub weights : (v i : ℕ) (s : NamedSegment) → slice_get order v ≡ Some i
      → slice_get segments i ≡ Some s
      → slice_index new v ≡ changed_time changes s.name (slice_index old v)

-- the longest length now, and the longest length over the same edges with the changed weights
pub record IsForecast (segments : List NamedSegment) (order : List ℕ) (g : Graph)
    (changes : List Change) (f : Forecast) : Type 0 where
  pub weights : List ℕ
  pub changed : AreChanged segments order changes g.weights weights
  pub before : IsLongestLength g f.before
  pub after : IsLongestLength (with_weights g weights) f.after
