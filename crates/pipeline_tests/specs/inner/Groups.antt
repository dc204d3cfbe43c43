-- Stays by task.
use Rattle.std.specs.Prelude.{◌≡◌, ◌≢◌, ℕ, ◌<◌, ◌≤◌, List, length, All, AllPairs, slice_index_or}
use Rattle.std.specs.List.{Contains}
use Rattle.pipeline_tests.specs.declared.groups.TaskStays.{TaskStays}
use Rattle.pipeline_tests.specs.declared.stays.Stay.{Stay}
use Rattle.pipeline_tests.specs.inner.Stays.{IsStay, StaysRise}
use Rattle.trace_types.specs.Parts.{by_number}
use Rattle.trace_types.specs.Pipelines.{HandlesAt}
use Rattle.trace_types.specs.declared.named_segment.NamedSegment.{NamedSegment}
use Rattle.trace_types.specs.declared.named_trace.NamedTrace.{NamedTrace}

-- the stays from one index to another are of one task, and the next is of another
pub record IsRunEnd (stays : List Stay) (from to : ℕ) : Type 0 where
  pub more : from < to
  pub within : to ≤ length stays
  pub same : (k : ℕ) (d : Stay) → from ≤ k → k < to
      → (slice_index_or stays k d).task ≡ (slice_index_or stays from d).task
  pub next : (d : Stay) → to < length stays
      → (slice_index_or stays to d).task ≢ (slice_index_or stays from d).task

-- it has all stays of its task and no other, in their order
pub record IsRun (stays : List Stay) (g : TaskStays) : Type 0 where
  pub sound : (s : Stay) → Contains g.stays.now s → Contains stays s × (s.task ≡ g.task)
  pub complete : (s : Stay) → Contains stays s → s.task ≡ g.task → Contains g.stays.now s
  pub rise : StaysRise stays → StaysRise g.stays.now
  pub some : (s : Stay) × Contains stays s × (s.task ≡ g.task)

-- some group is of the task
abbrev pub HasTask : List TaskStays → ℕ → Type 0
HasTask groups t = (g : TaskStays) × Contains groups g × (g.task ≡ t)

-- no two groups are of one task
abbrev pub TasksDiffer : List TaskStays → Type 0
TasksDiffer groups = AllPairs (λ (g h : TaskStays). g.task ≢ h.task) groups

-- one group for each task of the first n stays, and none for a task of those behind them
pub record AreRuns (stays : List Stay) (n : ℕ) (groups : List TaskStays) : Type 0 where
  pub each : All (IsRun stays) groups
  pub differ : TasksDiffer groups
  pub before : (k : ℕ) (d : Stay) → k < n → HasTask groups (slice_index_or stays k d).task
  pub behind : (k : ℕ) (d : Stay) → n ≤ k → k < length stays
      → HasTask groups (slice_index_or stays k d).task → ⊥

-- it has the stays of its task with every element that the task handles in the trace, in the order
-- in which they begin
pub record IsGroup (trace : NamedTrace) (g : TaskStays) : Type 0 where
  pub small : g.task < 64
  pub stays : (s : Stay) → Contains g.stays.now s → IsStay trace (length trace.segments) s
  pub own : (s : Stay) → Contains g.stays.now s → s.task ≡ g.task
  pub complete : (e k : ℕ) (s : NamedSegment) → HandlesAt by_number trace g.task e k s
      → (x : Stay) × Contains g.stays.now x × (x.element ≡ e)
  pub rise : StaysRise g.stays.now

-- the tasks rise
abbrev pub TasksRise : List TaskStays → Type 0
TasksRise groups = AllPairs (λ (g h : TaskStays). g.task < h.task) groups

-- one group for each task below n that handles an element, the tasks rising
pub record AreGroups (trace : NamedTrace) (n : ℕ) (groups : List TaskStays) : Type 0 where
  pub each : All (IsGroup trace) groups
  pub rise : TasksRise groups
  pub less : All (λ (g : TaskStays). g.task < n) groups
  pub complete : (t e k : ℕ) (s : NamedSegment) → t < n → HandlesAt by_number trace t e k s
      → HasTask groups t
