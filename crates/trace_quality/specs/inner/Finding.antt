-- What was found of a trace.
use Rattle.std.specs.Prelude.{◌≡◌, ℕ, IfSome, List, Option, Some, slice_get}
use Rattle.trace_types.specs.Batch.{PlainTrace}
use Rattle.trace_quality.specs.Facts.{IsFacts}
use Rattle.trace_quality.specs.declared.trace_facts.TraceFacts.{TraceFacts}

-- the facts of the trace with this index, if any were found
abbrev pub HasFound : List PlainTrace → ℕ → Option TraceFacts → Type 0
HasFound traces index found = (t : PlainTrace) → slice_get traces index ≡ Some t
    → IfSome found (λ (f : TraceFacts). IsFacts t f)
