use Rattle.std.proofs.Common.{◌≡◌, ◌+◌, ◌++◌, ◌∷◌, [], ℕ, Bool, List, length, map, get_or, take, arith, sym, ap, ◌∙◌}
use Rattle.std.proofs.lemmas.List.{length-map, length-take-le, map_push, take_more}
use Rattle.trace_rules.specs.SlowTraces.{with_indices}
use Rattle.slow_tail.proofs.SlowLemmas.{Place, at_most_is, length_places, not_before, places_push}
use Rattle.slow_tail.proofs.marking.mark_from.Goals as goal

pub overflow_cast-len : goal.overflow_cast-len
overflow_cast-len c =
    let i = c.latencies.latency-index in
    let xs = c.args.latencies.now in
    omega (arith, c.len.ensures, c.latencies.marks.ok.0, ap length c.latencies.invariant, length-map (with_indices (take i xs)) (not_before c.args.first), length_places (take i xs), length-take-le i xs (omega arith), c.requires)

pub latencies-preserved : goal.latencies-preserved
latencies-preserved c =
    let i = c.latencies.latency-index in
    let xs = c.args.latencies.now in
    let x = get_or xs i 0 in
    let p : Place = c.args.first in
    let at : c.len.result ≡ length (take i xs) = omega (arith, c.len.ensures, c.latencies.marks.ok.0, ap length c.latencies.invariant, length-map (with_indices (take i xs)) (not_before p), length_places (take i xs)) in
    let mark : c.le.result ≡ not_before p (x, length (take i xs)) = c.le.ensures ∙ (at_most_is p (x, c.len.result) ∙ ap (λ (k : ℕ). not_before p (x, k)) at) in
    c.in_ok-push.ensures.items ∙ (ap (λ (l : List Bool). l ++ c.le.result ∷ []) c.latencies.invariant
    ∙ (ap (λ (b : Bool). map (not_before p) (with_indices (take i xs)) ++ b ∷ []) mark
    ∙ (sym (map_push (not_before p) (with_indices (take i xs)) (x, length (take i xs))) ∙ ap (map (not_before p)) (sym (places_push (take i xs) x) ∙ ap with_indices (sym (take_more xs i 0 c.latencies-test.true))))))
