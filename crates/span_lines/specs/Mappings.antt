-- Calls, contexts and groups by number, as their lines need them.
use Rattle.std.specs.Prelude.{ℕ, ◌==◌, List, [], Bool, Option, slice_index, slice_index_or}
use Rattle.std.specs.Prelude.{unwrap_or}
use Rattle.span_calls.specs.declared.call.Call.{Call}
use Rattle.thread_steps.specs.declared.step.Step.{Step}
use Rattle.context_names.specs.Machines.{MachineNames, machine_name}
use Rattle.context_names.specs.Tasks.{TaskNames}

-- what the lines of calls are told from
pub record Mapping : Type 0 where
  -- the calls of all requests, each caller before what it calls
  pub calls : List Call
  -- of each call: its context, the steps of a thread from its start to its end, the call that
  -- receives its message, and the one that answers last
  pub numbers : List ℕ
  pub steps : List (List Step)
  pub first_far : List (Option ℕ)
  pub last_far : List (Option ℕ)
  -- of each context: the one that its thread begins with, its name there, and its group
  pub threads : List ℕ
  pub labels : List (List ℕ)
  pub groups : List ℕ
  -- of each group: its first context
  pub heads : List ℕ
  -- the names of the pieces of threads
  pub tasks : TaskNames
  -- machines, and their names
  pub machines : MachineNames

-- the name of a machine
abbrev pub name_of : MachineNames → List ℕ → List ℕ
name_of machines machine = unwrap_or (machine_name machines machine) []

module _ (m : Mapping) where
  -- the context of a call
  abbrev pub context_of : ℕ → ℕ
  context_of i = slice_index m.numbers i

  -- the call begins a thread: its context does
  abbrev pub begins_thread : ℕ → Bool
  begins_thread i = slice_index m.threads (context_of i) == context_of i

  -- the name of the context of a call, and that of the first context of its group
  abbrev pub label_of : ℕ → List ℕ
  label_of i = slice_index_or m.labels (context_of i) []

  abbrev pub head_of : ℕ → ℕ
  head_of i = slice_index m.heads (slice_index m.groups (context_of i))

  abbrev pub head_label : ℕ → List ℕ
  head_label i = slice_index_or m.labels (head_of i) []
