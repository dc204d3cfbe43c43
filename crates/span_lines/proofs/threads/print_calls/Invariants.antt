use Rattle.std.proofs.Common.{◌≡◌, ◌++◌, ◌-◌, length, min}
use Rattle.std.specs.List.{range_with_len}
use Rattle.span_lines.specs.inner.LentMappings.{mapping_lent}
use Rattle.span_lines.specs.inner.Printed.{lines_among, text_of}
use Rattle.span_lines.proofs.threads.print_calls.Given as goal

-- the lines of the calls so far
abbrev pub invariant-calls : goal.invariant-calls
invariant-calls l = record {
  text : l.text.items ≡ l.fn.text.items ++ text_of (lines_among (mapping_lent l.mapping) l.request (range_with_len l.first (l.call - l.first)));
  count : l.count ≡ min 18446744073709551615 (length (lines_among (mapping_lent l.mapping) l.request (range_with_len l.first (l.call - l.first))));
}
