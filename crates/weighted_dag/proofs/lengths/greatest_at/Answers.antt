use Rattle.std.proofs.Common.{◌≡◌, ℕ, ◌<◌, length, map, get_or, ap, sym, ◌∙◌}
use Rattle.std.proofs.lemmas.List.{take_all, get_or-map}
use Rattle.std.proofs.lemmas.List.Elements.{All-get_or}
use Rattle.weighted_dag.proofs.LengthLemmas.{IsGreatestAt-more}
use Rattle.weighted_dag.proofs.lengths.greatest_at.Goals as goal

pub indices-preserved : goal.indices-preserved
indices-preserved g c =
    let f = g.L.Length.value in
    let i : ℕ = get_or c.args.indices.now c.indices.index-index 0 in
    let x = c.index-numbers-index.result in
    let within = All-get_or (λ p. p < length c.args.numbers.now) c.args.indices.now c.indices.index-index 0 c.indices-test.true c.requires in
    let read : get_or (map f c.args.numbers.now) i 0 ≡ f x = get_or-map f c.args.numbers.now i x 0 within ∙ ap f (sym c.index-numbers-index.is) in
    let more = IsGreatestAt-more (map f c.args.numbers.now) c.args.indices.now c.indices.index-index (f c.indices.greatest) c.indices-test.true c.indices.invariant in
    rw c.or_greater-greatest.ensures (rw read at more)

pub returns-clause-upper : goal.returns-clause-upper
returns-clause-upper g c = let e = take_all c.indices.index-index c.args.indices.now c.indices-test.false in rw e at c.indices.invariant.upper
