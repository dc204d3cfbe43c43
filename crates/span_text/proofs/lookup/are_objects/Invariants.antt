use Rattle.std.proofs.Common.{◌≡◌, drop, map}
use Rattle.std.specs.List.{list_all}
use Rattle.json.specs.Value.{value_view}
use Rattle.span_text.specs.Members.{is_object}
use Rattle.span_text.proofs.lookup.are_objects.Given as goal

-- those that are left decide
abbrev pub invariant-loop-value : goal.invariant-loop-value
invariant-loop-value l = list_all is_object (map value_view (drop l.value-index l.values)) ≡ list_all is_object (map value_view l.values)
