-- The names of machines: those that have one base are numbered in the order of their own names.
use Rattle.std.specs.Prelude.{ℕ, ◌≡◌, List, Bool, true, All, Option, map, option_and_then, position, slice_get}
use Rattle.std.specs.Cmp.Lexicographic.{slice_cmp}
use Rattle.std.specs.List.{list_any}
use Rattle.std.specs.Ordering.{nat_cmp}
use Rattle.std.specs.Str.{bytes_eq}
use Rattle.span_names.specs.Names.{base_of, most_of_event}
use Rattle.span_types.specs.declared.span.Span.{Span}
use Rattle.trace_types.specs.Firsts.{firsts_of}
use Rattle.call_trees.specs.Orders.{AreInOrder}
use Rattle.context_names.specs.Numbers.{base_numbers, numbered_names}

-- the machines of spans, each once
abbrev pub machines_of : List Span → List (List ℕ)
machines_of spans = firsts_of bytes_eq (map (λ (s : Span). s.machine) spans)

-- these machines have these names
pub record AreNamed (machines names : List (List ℕ)) : Type 0 where
  pub order : List ℕ
  pub ordered : AreInOrder (slice_cmp nat_cmp) machines order
  pub numbered : names ≡ numbered_names (map (base_of most_of_event) machines)
      (base_numbers (map (base_of most_of_event) machines) order)

-- machines, and their names by index
pub record MachineNames : Type 0 where
  pub machines : List (List ℕ)
  pub names : List (List ℕ)

-- the name of a machine, if it is among them
abbrev pub machine_name : MachineNames → List ℕ → Option (List ℕ)
machine_name named machine =
    option_and_then (slice_get named.names) (position (bytes_eq machine) named.machines)

-- the machine is among them
abbrev pub has_machine : MachineNames → List ℕ → Bool
has_machine named machine = list_any (bytes_eq machine) named.machines

-- the machine of each span is among them
abbrev pub HaveMachines : MachineNames → List Span → Type 0
HaveMachines named spans = All (λ (s : Span). has_machine named s.machine ≡ true) spans
