-- Why the spans of an input have no requests.
use Rattle.std.specs.Prelude.{◌≡◌, List, Some, None, position, ⊤}
use Rattle.span_types.specs.declared.span.Span.{Span}
use Rattle.span_requests.specs.Callers.{is_endless}
use Rattle.span_requests.specs.SpansOnce.{repeats_id, spans_once}
use Rattle.span_requests.specs.declared.span_fault.SpanFault.{SpanFault}
use Rattle.span_requests.specs.declared.span_fault.SpanFault.TheVariants.{Memory, RepeatedId, Circle}

-- no span repeats the id of another one with other content
abbrev pub HaveOwnIds : List Span → Type 0
HaveOwnIds input = position (repeats_id input) input ≡ None

-- no parents form a circle
abbrev pub HaveEntries : List Span → Type 0
HaveEntries input = position (is_endless (spans_once input)) input ≡ None

-- the fault is told of the first span that has it, by its index, and circles where ids are unique
abbrev pub IsFaultOf : List Span → SpanFault → Type 0
IsFaultOf input Memory = ⊤
IsFaultOf input (RepeatedId span) = position (repeats_id input) input ≡ Some span
IsFaultOf input (Circle span) =
    HaveOwnIds input × (position (is_endless (spans_once input)) input ≡ Some span)
