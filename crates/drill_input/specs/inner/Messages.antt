-- What the code's message is as a member of a line.
use Rattle.std.specs.Prelude.{ℕ, List, [], ◌∷◌, codes}
use Rattle.drill_input.specs.DrillInput.{text_member}
use Rattle.drill_input.specs.declared.trace_line.Message.{Message}
use Rattle.drill_input.specs.declared.trace_line.Message.TheVariants.{Absent, Sent, Received}

-- the member of a message, or none
abbrev pub message_members : Message → List (List ℕ)
message_members Absent = []
message_members (Sent name) = text_member (codes "send") name.now ∷ []
message_members (Received name) = text_member (codes "recv") name.now ∷ []
