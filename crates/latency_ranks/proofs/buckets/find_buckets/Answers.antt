use Rattle.std.proofs.Common.{◌≡◌, ◌-◌, ◌*◌, ◌/◌, ◌++◌, ◌∷◌, [], ℕ, List, length, map, get_or, take, arith, sym, ap, ◌∙◌, subst}
use Rattle.std.specs.List.Sorted.{IsPermutation}
use Rattle.std.specs.Prelude.{count_by}
use Rattle.std.proofs.lemmas.List.{length-map, length-take-le, map_push, take_more}
use Rattle.std.proofs.lemmas.List.Sorted.{length_permutation}
use Rattle.trace_rules.specs.SlowTraces.{comes_after, with_indices}
use Rattle.latency_ranks.specs.Buckets.{bucket_of, buckets_of, later_traces}
use Rattle.latency_ranks.proofs.PlaceLemmas.{Place, later_same, length_places, places_push}
use Rattle.latency_ranks.proofs.buckets.find_buckets.Goals as goal

pub overflow_cast-len : goal.overflow_cast-len
overflow_cast-len c =
    let i = c.latencies.latency-index in
    let xs = c.args.latencies.now in
    omega (arith, c.len.ensures, c.latencies.marks.ok.0, ap length c.latencies.invariant, length-map (with_indices (take i xs)) (bucket_of xs), length_places (take i xs), length-take-le i xs (omega arith), c.requires)

pub count_later-later-requires-clause-few : goal.count_later-later-requires-clause-few
count_later-later-requires-clause-few c =
    omega (arith, ap length c.deref.ensures.value, length_permutation c.in_ok-sorted.sorted.items c.sort_unstable.new.self.items c.sort_unstable.ensures.permutation, ap length c.in_ok-sorted.ensures, length_places c.args.latencies.now, c.requires)

pub bucket_before-requires-clause-few : goal.bucket_before-requires-clause-few
bucket_before-requires-clause-few c =
    omega (arith, c.count_later-later.ensures.few, ap length c.deref.ensures.value, length_permutation c.in_ok-sorted.sorted.items c.sort_unstable.new.self.items c.sort_unstable.ensures.permutation, ap length c.in_ok-sorted.ensures, length_places c.args.latencies.now, c.requires)

pub latencies-preserved : goal.latencies-preserved
latencies-preserved c =
    let i = c.latencies.latency-index in
    let xs = c.args.latencies.now in
    let x = get_or xs i 0 in
    let p : Place = (get_or c.args.latencies.now c.latencies.latency-index 0, c.len.result) in
    let at : c.len.result ≡ length (take i xs) = omega (arith, c.len.ensures, c.latencies.marks.ok.0, ap length c.latencies.invariant, length-map (with_indices (take i xs)) (bucket_of xs), length_places (take i xs)) in
    let moved : IsPermutation (with_indices xs) c.sort_unstable.new.self.items = subst (λ (l : List Place). IsPermutation l c.sort_unstable.new.self.items) c.in_ok-sorted.ensures c.sort_unstable.ensures.permutation in
    let later : c.count_later-later.result ≡ later_traces xs (x, length (take i xs)) =
    c.count_later-later.ensures.later ∙ (ap (count_by (comes_after p)) c.deref.ensures.value
    ∙ (later_same p (with_indices xs) c.sort_unstable.new.self.items moved ∙ ap (λ (k : ℕ). count_by (comes_after (x, k)) (with_indices xs)) at)) in
    let mark : c.bucket_before.result ≡ bucket_of xs (x, length (take i xs)) =
    c.bucket_before.ensures ∙ ap (λ (k : ℕ). buckets_of (length xs) - 1 - k * buckets_of (length xs) / length xs) later in
    c.in_ok-push.ensures.items ∙ (ap (λ (l : List ℕ). l ++ c.bucket_before.result ∷ []) c.latencies.invariant
    ∙ (ap (λ (b : ℕ). map (bucket_of xs) (with_indices (take i xs)) ++ b ∷ []) mark
    ∙ (sym (map_push (bucket_of xs) (with_indices (take i xs)) (x, length (take i xs))) ∙ ap (map (bucket_of xs)) (sym (places_push (take i xs) x) ∙ ap with_indices (sym (take_more xs i 0 c.latencies-test.true))))))
