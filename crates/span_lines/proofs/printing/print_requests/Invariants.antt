use Rattle.std.proofs.Common.{◌≡◌, ◌≤◌, ◌++◌, List}
use Rattle.std.specs.List.{count_by, range_with_len}
use Rattle.span_types.specs.declared.span.Span.{Span}
use Rattle.span_lines.specs.SpanTexts.{is_long, requests_text}
use Rattle.span_lines.specs.inner.FirstEntries.{AreFirst}
use Rattle.span_lines.specs.inner.LentMappings.{mapping_lent}
use Rattle.span_lines.specs.inner.Printed.{requests_among}
use Rattle.span_lines.proofs.printing.print_requests.Given as goal

-- the lines of the requests that begin with the calls so far
abbrev pub invariant-requests : goal.invariant-requests
invariant-requests l = record {
  text : (entries : List Span) → AreFirst entries l.first → l.text.items ≡ l.fn.text.items ++ requests_text (requests_among (mapping_lent l.mapping) entries (range_with_len 0 l.call));
  count : (entries : List Span) → AreFirst entries l.first → l.long ≡ count_by is_long (requests_among (mapping_lent l.mapping) entries (range_with_len 0 l.call));
  few : l.long ≤ l.call;
}
