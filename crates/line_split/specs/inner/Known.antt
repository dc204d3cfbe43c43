-- The parts of the lines of a chunk of which all are event lines or blank.
use Rattle.std.specs.Prelude.{ℕ, ◌≡◌, ◌⊎◌, List, [], ◌∷◌, true, false, map, Option, Some, None, Ok}
use Rattle.trace_types.specs.declared.event.Event as events
use Rattle.event_lines.specs.Cut.{is_blank_line}
use Rattle.event_lines.specs.declared.line.Line as said
use Rattle.event_lines.specs.declared.line.Line.TheVariants.{Event, Control}
use Rattle.line_split.specs.CommandLines.{Call}
use Rattle.line_split.specs.Lines.{request_of}
use Rattle.line_split.specs.Parts.{part_of}
use Rattle.line_split.specs.inner.Steps.{part_said}

-- the part of an event
abbrev pub event_part : Call → events.Event → ℕ
event_part call event = part_of call.parts call.seed event.request

-- the part of a line as it was read; a control line has none
abbrev pub line_part : Call → said.Line → Option ℕ
line_part call (Event event) = Some (event_part call event)
line_part call (Control line command) = None

-- all these lines are events, and these are their parts
abbrev pub ArePartsSaid : Call → List said.Line → List ℕ → Type 0
ArePartsSaid call lines parts = map (line_part call) lines ≡ map Some parts

-- these are the parts of the lines that are not blank, one after another
abbrev pub AreKnown : Call → List (List ℕ) → List ℕ → Type 0
AreKnown call [] parts = parts ≡ []
AreKnown call (line ∷ lines) parts =
    ((is_blank_line line ≡ true) × (part_said call (request_of line) ≡ Ok None)
    × AreKnown call lines parts)
    ⊎ ((is_blank_line line ≡ false) × ((part : ℕ) × (rest : List ℕ) × (parts ≡ part ∷ rest)
    × (part_said call (request_of line) ≡ Ok (Some part)) × AreKnown call lines rest))
