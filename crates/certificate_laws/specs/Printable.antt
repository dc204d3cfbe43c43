-- Kept traces whose certificate can be read again.
use Rattle.std.specs.Prelude.{◌≡◌, ℕ, ◌<◌, ◌^◌, List, All, Some}
use Rattle.certificates.specs.Claims.{text_of}
use Rattle.session_rules.specs.KeptTraces.{Kept, day_of}
use Rattle.trace_types.specs.declared.segment.Segment.{Segment}

-- a certificate may have this text: 1 to 64 bytes of UTF-8 without ASCII control characters
abbrev pub IsPrintableText : List ℕ → Type 0
IsPrintableText text = text_of text ≡ Some text

-- it may have the texts of the segment's name
pub record HasPrintableName (s : Segment) : Type 0 where
  pub task : IsPrintableText s.task
  pub start : IsPrintableText s.start_event
  pub end : IsPrintableText s.end_event

-- it may have the request of the trace, its day and the names of its segments
pub record IsPrintable (k : Kept) : Type 0 where
  pub request : IsPrintableText k.trace.request
  pub day : day_of k < 2 ^ 32
  pub names : All HasPrintableName k.trace.segments
