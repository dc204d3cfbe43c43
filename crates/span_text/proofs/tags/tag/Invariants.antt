use Rattle.std.proofs.Common.{◌≡◌, drop, map}
use Rattle.json.specs.Value.{value_view}
use Rattle.span_text.specs.Tags.{tag}
use Rattle.span_text.proofs.tags.tag.Given as goal

-- those that are left decide
abbrev pub invariant-loop-tag : goal.invariant-loop-tag
invariant-loop-tag l = tag l.form l.key (map value_view (drop l.tag-index l.tags)) ≡ tag l.form l.key (map value_view l.tags)
