use Rattle.std.proofs.Common.{◌≡◌, ◌++◌, ◌∷◌, [], ℕ, List, length, get_or, take, arith, sym, ap, ◌∙◌}
use Rattle.std.proofs.lemmas.List.{length-take-le, take_more}
use Rattle.trace_rules.specs.SlowTraces.{with_indices}
use Rattle.latency_ranks.proofs.PlaceLemmas.{Place, length_places, places_push}
use Rattle.latency_ranks.proofs.places.list_places.Goals as goal

pub overflow_cast-len : goal.overflow_cast-len
overflow_cast-len c =
    let i = c.latencies.latency-index in
    let xs = c.args.latencies.now in
    omega (arith, c.len.ensures, c.latencies.places.ok.0, ap length c.latencies.invariant, length_places (take i xs), length-take-le i xs (omega arith), c.requires)

pub latencies-preserved : goal.latencies-preserved
latencies-preserved c =
    let i = c.latencies.latency-index in
    let xs = c.args.latencies.now in
    let x = get_or xs i 0 in
    let at : c.len.result ≡ length (take i xs) = omega (arith, c.len.ensures, c.latencies.places.ok.0, ap length c.latencies.invariant, length_places (take i xs)) in
    c.in_ok-push.ensures.items ∙ (ap (λ (l : List Place). l ++ (x, c.len.result) ∷ []) c.latencies.invariant
    ∙ (ap (λ (k : ℕ). with_indices (take i xs) ++ (x, k) ∷ []) at ∙ (sym (places_push (take i xs) x) ∙ ap with_indices (sym (take_more xs i 0 c.latencies-test.true)))))
