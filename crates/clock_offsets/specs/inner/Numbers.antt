-- The numbers of the texts of events.
use Rattle.std.specs.Prelude.{ℕ, List}
use Rattle.event_table.specs.Texts.{TextLists}
use Rattle.clock_offsets.specs.declared.first_events.Field.{Field}
use Rattle.clock_offsets.specs.declared.first_events.Field.TheVariants.{Machine, Task}

-- the texts that the numbers in a field are of
abbrev pub texts_in : Field → TextLists → List (List ℕ)
texts_in Machine texts = texts.machines
texts_in Task texts = texts.tasks
