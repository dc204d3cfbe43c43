use Rattle.std.proofs.Common.{◌≡◌, drop, map}
use Rattle.json.specs.Value.{value_view}
use Rattle.span_text.specs.Outcomes.{after, gather}
use Rattle.span_text.proofs.item_reader.read_items.Given as goal

-- what was read, and what is said of the items that are left
abbrev pub invariant-loop-item : goal.invariant-loop-item
invariant-loop-item g l =
    after l.spans.items (gather (g.R.ItemReader.says l.reader) (map value_view (drop l.item-index l.items)))
    ≡ after l.fn.spans.items (gather (g.R.ItemReader.says l.reader) (map value_view l.items))
