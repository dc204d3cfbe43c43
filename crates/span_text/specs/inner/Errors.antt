-- Where an error stands.
use Rattle.std.specs.Prelude.{ℕ}
use Rattle.span_text.specs.declared.read_error.ReadError.{ReadError}
use Rattle.span_text.specs.declared.read_error.ReadError.TheVariants as inside
use Rattle.span_text.specs.declared.placed.SpanError.{SpanError}
use Rattle.span_text.specs.declared.placed.SpanError.TheVariants.{Memory, Refused}

-- the error at a place
abbrev pub error_at : ℕ → ReadError → SpanError
error_at n inside.Memory = Memory
error_at n (inside.Refused why) = Refused (record { place = n; why = why })
