use Rattle.std.proofs.Common.{◌≡◌}
use Rattle.span_requests.specs.inner.EntryKeys.{AreKeys, entry_numbers, indexes_of}
use Rattle.span_requests.specs.inner.Ids.{lent_spans}
use Rattle.span_requests.proofs.entries.entry_keys.Given as goal

-- the keys of the entries so far
abbrev pub invariant-loop-at : goal.invariant-loop-at
invariant-loop-at l = record {
  keys : AreKeys (lent_spans l.spans) l.keys.items;
  indexes : indexes_of l.keys.items ≡ entry_numbers l.callers l.at;
}
