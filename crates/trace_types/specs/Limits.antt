-- How many names and tasks a catalogue may have, and how great a trace's grace may be.
use Rattle.std.specs.Prelude.{ℕ}

-- the most segment names; their numbers are below this
abbrev pub most_names : ℕ
most_names = 512

-- the most tasks of segments; their numbers are below this
abbrev pub most_tasks : ℕ
most_tasks = 64

-- the greatest grace, in nanoseconds: a second
abbrev pub most_grace : ℕ
most_grace = 1000000000
