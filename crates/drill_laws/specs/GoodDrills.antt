-- What the input of a drill says and how a drill ends: statements that laws prove.
use Rattle.std.specs.Prelude.{ℕ, ◌≡◌, ◌≤◌, ◌⊎◌, List, Ok, Some}
use Rattle.drill_input.specs.DrillInput.{drill_input}
use Rattle.event_lines.specs.InputLines.{lines_said}
use Rattle.event_lines.specs.declared.line.Line.{Line}
use Rattle.mystery_run.specs.CommandLines.{call_of, drill}
use Rattle.mystery_run.specs.Runs.{Explains, Seen}
use Rattle.mystery_run.specs.declared.outcome.Outcome.{Outcome}
use Rattle.mystery_run.specs.declared.outcome.Outcome.TheVariants.{Done, Memory, Write}

-- an input of at most 20,000 traces, by draws from any number, has no bad line
abbrev pub DrillLinesAreGood : Type 0
DrillLinesAreGood = (number traces : ℕ) → traces ≤ 20000
    → (lines : List Line) × (lines_said (drill_input number traces) ≡ Ok lines)

-- a run whose arguments ask for a drill, whatever its numbers are and whatever they give it, is
-- done, or is out of memory, or could not write its text: status 0, 1 or 5
abbrev pub DrillsEndWell : Type 0
DrillsEndWell = (seen : Seen) (outcome : Outcome) (workers number traces : ℕ)
    (given : List (List ℕ)) → call_of seen.words
    ≡ Some (record { workers = workers; given = given; action = drill number traces })
    → Explains outcome seen
    → (outcome ≡ Done) ⊎ (outcome ≡ Memory) ⊎ (outcome ≡ Write)
