use Rattle.std.proofs.Common.{◌≡◌, drop, map}
use Rattle.std.specs.Prelude.{find}
use Rattle.json.specs.Value.{value_view}
use Rattle.jaeger_spans.specs.Parents.{is_of_trace}
use Rattle.jaeger_spans.proofs.parents.find_any.Given as goal

-- those that are left decide
abbrev pub invariant-loop-reference : goal.invariant-loop-reference
invariant-loop-reference l =
    find (is_of_trace l.trace) (map value_view (drop l.reference-index l.references)) ≡ find (is_of_trace l.trace) (map value_view l.references)
