-- What the lines of one line's reading say.
use Rattle.std.specs.Prelude.{ℕ, List, [], ◌∷◌, Option, Some, None, Result, Ok, Err}
use Rattle.event_lines.specs.declared.line.Line as said
use Rattle.event_lines.specs.declared.line.Line.TheVariants.{Event, Control}
use Rattle.line_split.specs.declared.reason.Reason.{Reason}
use Rattle.line_split.specs.declared.reason.Reason.TheVariants as reasons

-- the request of the first of these lines
abbrev pub first_said : List said.Line → Result (Option (List ℕ)) Reason
first_said [] = Ok None
first_said (Event event ∷ lines) = Ok (Some event.request)
first_said (Control line command ∷ lines) = Err reasons.Control
