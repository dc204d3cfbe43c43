use Rattle.std.proofs.Common.{◌≡◌, ◌≤◌, length, take}
use Rattle.span_requests.specs.SpansOnce.{spans_once}
use Rattle.span_requests.specs.inner.Ids.{lent_spans, pairs_of, pairs_of_keys}
use Rattle.span_requests.specs.inner.Numbering.{AreNumbered}
use Rattle.span_requests.proofs.numbering.number_spans.Given as goal

-- the spans so far were numbered
abbrev pub invariant-loop-span : goal.invariant-loop-span
invariant-loop-span l = record {
  spans : lent_spans l.spans.items ≡ spans_once (take l.span-index l.input);
  ids : pairs_of_keys l.ids.keys ≡ pairs_of (spans_once (take l.span-index l.input));
  numbers : AreNumbered (take l.span-index l.input) (spans_once (take l.span-index l.input)) l.numbers.items;
  few : length l.spans.items ≤ l.span-index;
}
