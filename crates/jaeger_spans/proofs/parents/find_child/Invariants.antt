use Rattle.std.proofs.Common.{◌≡◌, ◌&&◌, drop, map}
use Rattle.std.specs.Prelude.{find}
use Rattle.json.specs.Value.{value_view}
use Rattle.jaeger_spans.specs.Parents.{is_of_trace, is_child}
use Rattle.jaeger_spans.proofs.parents.find_child.Given as goal

-- those that are left decide
abbrev pub invariant-loop-reference : goal.invariant-loop-reference
invariant-loop-reference l =
    find (λ r. is_of_trace l.trace r && is_child r) (map value_view (drop l.reference-index l.references)) ≡ find (λ r. is_of_trace l.trace r && is_child r) (map value_view l.references)
