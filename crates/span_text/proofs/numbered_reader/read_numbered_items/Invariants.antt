use Rattle.std.proofs.Common.{◌≡◌, ◌+◌, length, drop, map}
use Rattle.json.specs.Value.{value_view}
use Rattle.span_text.specs.Outcomes.{after}
use Rattle.span_text.specs.Places.{gather_from}
use Rattle.span_text.proofs.numbered_reader.read_numbered_items.Given as goal

-- what was read, and what is said of the items that are left
abbrev pub invariant-loop-item : goal.invariant-loop-item
invariant-loop-item g l =
    after l.spans.items (gather_from (g.R.NumberedReader.says l.reader) (length l.spans.items + 1) (map value_view (drop l.item-index l.items)))
    ≡ after l.fn.spans.items (gather_from (g.R.NumberedReader.says l.reader) (length l.fn.spans.items + 1) (map value_view l.items))
