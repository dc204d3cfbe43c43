-- The event lines of spans: the whole mapping, step by step.
use Rattle.std.specs.Prelude.{ℕ, ◌≡◌, ◌<◌, List, All, Bool, Option, length, map}
use Rattle.trace_types.specs.declared.event.Event.{Event}
use Rattle.span_types.specs.declared.span.Span.{Span}
use Rattle.call_trees.specs.Tables.{table_of}
use Rattle.linked_groups.specs.Groups.{groups_of}
use Rattle.span_requests.specs.Callers.{caller_numbers}
use Rattle.span_requests.specs.Entries.{AreEntries}
use Rattle.span_calls.specs.Calls.{AreCalls}
use Rattle.span_calls.specs.Seen.{span_at}
use Rattle.span_calls.specs.declared.call.Call.{Call}
use Rattle.call_contexts.specs.ContextOrder.{AreOrdered}
use Rattle.call_contexts.specs.Contexts.{AreContexts, Frame}
use Rattle.call_contexts.specs.Threads.{AreThreads}
use Rattle.context_forks.specs.Forks.{calls_below, context_pairs, forked_of}
use Rattle.context_names.specs.Bases.{event_base, task_base}
use Rattle.context_names.specs.Labels.{labels_of}
use Rattle.context_names.specs.Machines.{AreNamed, MachineNames, machines_of}
use Rattle.context_names.specs.Pieces.{heads_by_group, numbers_by_group}
use Rattle.context_names.specs.Tasks.{task_names}
use Rattle.thread_steps.specs.declared.step.Step.{Step}
use Rattle.thread_steps.specs.Steps.{steps_from}
use Rattle.span_lines.specs.Mappings.{Mapping}
use Rattle.span_lines.specs.Messages.{all_first_far, all_last_far}
use Rattle.span_lines.specs.Requests.{lines_by_request}

-- the calling contexts of calls: the number of each call's own, the contexts, their order, and for
-- each one those right below it
pub record Placing : Type 0 where
  pub numbers : List ℕ
  pub contexts : List Frame
  pub order : List ℕ
  pub below : List (List ℕ)

-- the threads that run them: which contexts are forked, the groups of those that overlap, and the
-- context that the thread of each begins with
pub record Threading : Type 0 where
  pub forked : List Bool
  pub groups : List ℕ
  pub threads : List ℕ

module _ (p : Placing) (t : Threading) where
  -- of each group its first context, and its number in the thread that forks it
  abbrev pub group_heads : List ℕ
  group_heads = heads_by_group p.contexts p.order p.below t.threads t.forked t.groups

  abbrev pub group_numbers : List ℕ
  group_numbers = numbers_by_group p.contexts p.order p.below t.threads t.forked t.groups

module _ (calls : List Call) (p : Placing) (t : Threading) where
  -- the steps of a thread from the start of each call to its end
  abbrev pub call_steps : List (List Step)
  call_steps = table_of (steps_from calls (calls_below calls)
      (record { numbers = p.numbers; forked = t.forked; groups = t.groups }) (group_numbers p t))
      (length calls)

  -- what the lines of these calls are told from
  abbrev pub mapping_of : MachineNames → Mapping
  mapping_of machines = record {
    calls = calls;
    numbers = p.numbers;
    steps = call_steps;
    first_far = all_first_far calls (calls_below calls);
    last_far = all_last_far calls (calls_below calls);
    threads = t.threads;
    labels = labels_of p.order t.threads (map event_base p.contexts);
    groups = t.groups;
    heads = group_heads p t;
    tasks = task_names p.order t.threads (map task_base p.contexts);
    machines = machines;
  }

-- the threading of contexts of calls, where calls may overlap by a grace in nanoseconds
pub record AreThreaded (grace : ℕ) (calls : List Call) (numbers : List ℕ) (contexts : List Frame)
    (t : Threading) : Type 0 where
  pub forks : t.forked ≡ forked_of grace calls numbers (length contexts)
  pub linked : t.groups ≡ groups_of (length contexts) (context_pairs grace calls numbers)
  pub run : AreThreads contexts t.forked t.threads

-- the lines of each request that is asked for of spans, each of which is there once
pub record AreRequestLines (spans : List Span) (grace : ℕ) (asked : Option (List ℕ))
    (requests : List (List Event)) : Type 0 where
  -- the numbers of the spans that begin requests, in the order of these
  pub entries : List ℕ
  pub within : All (λ e. e < length spans) entries
  pub begin : AreEntries spans (map (span_at spans) entries)
  -- the calls of the requests that are asked for
  pub calls : List Call
  pub called : AreCalls spans (caller_numbers spans) asked entries calls
  -- their contexts, in order
  pub placing : Placing
  pub placed : AreContexts calls placing.numbers placing.contexts
  pub ordered : AreOrdered placing.contexts placing.order placing.below
  -- the threads that run them
  pub threading : Threading
  pub threaded : AreThreaded grace calls placing.numbers placing.contexts threading
  -- the machines of spans, and their names
  pub machines : MachineNames
  pub known : machines.machines ≡ machines_of spans
  pub named : AreNamed machines.machines machines.names
  pub lines : requests ≡ lines_by_request (mapping_of calls placing threading machines)
      (map (span_at spans) entries)
