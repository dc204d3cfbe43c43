-- What a contract sees of a day's sheet.
use Rattle.std.specs.Prelude.{ℕ, List}
use Rattle.trace_types.specs.declared.named_trace.NamedTrace.{NamedTrace}

-- the traces in the order in which they were taken, and words of 64 bits
pub record SheetState : Type 0 where
  pub traces : List NamedTrace
  pub words : List ℕ
