-- Calls with their contexts and threads.
use Rattle.std.specs.Prelude.{ℕ, ◌≡◌, ◌<◌, List, All, length, map}
use Rattle.trace_types.specs.declared.event.Event.{Event}
use Rattle.call_contexts.specs.Contexts.{AreContexts, Frame, frames_of}
use Rattle.call_contexts.specs.ContextOrder.{AreOrdered}
use Rattle.context_forks.specs.Forks.{calls_below}
use Rattle.context_names.specs.Bases.{event_base, task_base}
use Rattle.context_names.specs.Labels.{labels_of}
use Rattle.context_names.specs.Machines.{MachineNames}
use Rattle.context_names.specs.Tasks.{task_names}
use Rattle.context_names.specs.declared.pieces.GroupNumbers.{GroupNumbers}
use Rattle.span_calls.specs.Calls.{AreBefore}
use Rattle.span_calls.specs.declared.call.Call.{Call}
use Rattle.span_types.specs.declared.span.Span.{Span}
use Rattle.span_lines.specs.Requests.{lines_by_request}
use Rattle.span_lines.specs.SpanLines.{AreThreaded, Placing, Threading, group_heads, group_numbers}
use Rattle.span_lines.specs.SpanLines.{mapping_of}
use Rattle.span_lines.specs.declared.naming.ContextNames.{ContextNames}
use Rattle.span_lines.specs.declared.placed_calls.PlacedCalls.{PlacedCalls}
use Rattle.span_lines.specs.declared.threading.Threads.{Threads}

-- the contexts of these calls
abbrev pub frames_in : PlacedCalls → List Frame
frames_in p = frames_of p.contexts.now.contexts.items

-- the placing of these calls, with this order of their contexts
abbrev pub placing_in : PlacedCalls → (order : List ℕ) (below : List (List ℕ)) → Placing
placing_in p order below = record {
  numbers = p.contexts.now.numbers.items;
  contexts = frames_in p;
  order = order;
  below = below;
}

-- these threads
abbrev pub threading_of : Threads → Threading
threading_of t =
    record { forked = t.forked.items; groups = t.groups.items; threads = t.threads.items }

-- all is there, and leads to contexts and groups
pub record ArePlaced (p : PlacedCalls) : Type 0 where
  pub before : AreBefore p.calls.now
  pub listed : p.below.now ≡ calls_below p.calls.now
  pub placed : AreContexts p.calls.now p.contexts.now.numbers.items (frames_in p)
  pub forked : length p.threads.now.forked.items ≡ length (frames_in p)
  pub groups : length p.threads.now.groups.items ≡ length (frames_in p)
  pub grouped : All (λ g. g < length (frames_in p)) p.threads.now.groups.items
  pub threads : length p.threads.now.threads.items ≡ length (frames_in p)

-- the names of contexts and of groups are there, and lead to contexts
pub record AreNamedBy (p : PlacedCalls) (names : ContextNames) (groups : GroupNumbers)
    : Type 0 where
  pub labels : length names.events ≡ length (frames_in p)
  pub bases : length names.tasks.bases ≡ length (frames_in p)
  pub tasks : length names.tasks.numbers ≡ length (frames_in p)
  pub head_count : length groups.heads.items ≡ length (frames_in p)
  pub number_count : length groups.numbers.items ≡ length (frames_in p)
  pub heads : All (λ x. x < length (frames_in p)) groups.heads.items

-- they are those of the contexts in this order
pub record AreNamesOf (p : PlacedCalls) (order : List ℕ) (below : List (List ℕ))
    (names : ContextNames) (groups : GroupNumbers) : Type 0 where
  pub labels : names.events
      ≡ labels_of order p.threads.now.threads.items (map event_base (frames_in p))
  pub tasks : names.tasks
      ≡ task_names order p.threads.now.threads.items (map task_base (frames_in p))
  pub heads : groups.heads.items
      ≡ group_heads (placing_in p order below) (threading_of p.threads.now)
  pub numbers : groups.numbers.items
      ≡ group_numbers (placing_in p order below) (threading_of p.threads.now)

-- the lines of the requests of these calls, by the names of machines and the entries of traces
pub record HaveLines (calls : List Call) (grace : ℕ) (machines : MachineNames)
    (entries : List Span) (requests : List (List Event)) : Type 0 where
  pub placing : Placing
  pub placed : AreContexts calls placing.numbers placing.contexts
  pub ordered : AreOrdered placing.contexts placing.order placing.below
  pub threading : Threading
  pub threaded : AreThreaded grace calls placing.numbers placing.contexts threading
  pub lines : requests ≡ lines_by_request (mapping_of calls placing threading machines) entries
