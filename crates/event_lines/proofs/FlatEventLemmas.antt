-- What a line says whose fields were read straight from its tokens.
use Rattle.std.proofs.Common.{◌≡◌, ℕ, List, Result, Err, sym, ap, subst, ◌∙◌, if◌then◌else◌}
use Rattle.std.specs.Option.{option_map_or}
use Rattle.serde_json.specs.Data.{Data, object}
use Rattle.event_table.specs.declared.event_fields.EventFields.{EventFields}
use Rattle.event_lines.specs.declared.line.Line.{Line}
use Rattle.event_lines.specs.declared.why.Why.{Why}
use Rattle.event_lines.specs.declared.why.Why.TheVariants.{NotJson}
use Rattle.event_lines.specs.LineResults.{line_result, value_result, control_line_result, event_line_result}
use Rattle.event_lines.specs.inner.Fields.{AreEventFields}
use Rattle.event_lines.specs.inner.FlatObjects.{IsEventLine}
use Rattle.event_lines.specs.inner.Readings.{IsLineAdded}

-- what its fields say is what the line says
said_by_fields : (n : ℕ) (line : List ℕ) (f : EventFields) (h : IsEventLine line f) → event_line_result n (object h.members) ≡ line_result n line
said_by_fields n line f h =
    sym (
    ap (λ o. option_map_or (value_result n) o (Err NotJson)) h.reading
    ∙ ap (λ b. if b then control_line_result n (object h.members) else event_line_result n (object h.members)) h.control
    )

-- what is appended by its fields is what the line says
pub added_by_fields : (n : ℕ) (line : List ℕ) (f : EventFields) (old new : List Line) (added : Result (Unit {0}) Why) → IsEventLine line f
    → ((d : Data) → AreEventFields f d → IsLineAdded (event_line_result n d) old new added) → IsLineAdded (line_result n line) old new added
added_by_fields n line f old new added h e =
    subst (λ said. IsLineAdded said old new added) (said_by_fields n line f h) (e (object h.members) h.fields)
