use Rattle.std.proofs.Common.{◌≡◌, ◌≢◌, ◌<◌, length, map, get_or, inr, ap, sym, ◌∙◌}
use Rattle.std.proofs.lemmas.Bool.{both_ways}
use Rattle.std.proofs.lemmas.List.{take_all, get_or-map}
use Rattle.std.proofs.lemmas.List.Elements.{All-more, All-get_or}
use Rattle.critical_path.proofs.WalkLemmas.{first_index}
use Rattle.critical_path.proofs.walk.first_with.Given.{Over}
use Rattle.critical_path.proofs.walk.first_with.Goals as goal
use Rattle.critical_path.proofs.walk.first_with.Goals.{After-index-lengths-index}

-- the length from the vertex at the index, as it was read
read : (g : Over) (c : After-index-lengths-index g) → get_or (map g.L.Length.value c.args.lengths.now) (get_or c.args.indices.now c.indices.index-index 0) 0 ≡ g.L.Length.value c.index-lengths-index.result
read g c =
    let f = g.L.Length.value in
    let within = All-get_or (λ i. i < length c.args.lengths.now) c.args.indices.now c.indices.index-index 0 c.indices-test.true c.requires.within in
    get_or-map f c.args.lengths.now (get_or c.args.indices.now c.indices.index-index 0) c.index-lengths-index.result 0 within ∙ ap f (sym c.index-lengths-index.is)

pub returns-then-is-2-clause-first : goal.returns-then-is-2-clause-first
returns-then-is-2-clause-first g c =
    let f = g.L.Length.value in
    let at = (goal.at.returns-then-is-2-clause-first g c).After-index-lengths-index in
    first_index (map f c.args.lengths.now) c.args.indices.now (f c.args.left) c.indices.index-index c.requires.rising c.indices-test.true c.indices.invariant
    (read g at ∙ c.is-in-indices.ensures.0 c.if-is-2.true)

pub indices-preserved : goal.indices-preserved
indices-preserved g c =
    let f = g.L.Length.value in
    let at = (goal.at.indices-preserved g c).After-index-lengths-index in
    All-more (λ i. get_or (map f c.args.lengths.now) i 0 ≢ f c.args.left) c.args.indices.now c.indices.index-index 0 c.indices-test.true c.indices.invariant
    (λ e. both_ways c.is-in-indices.result c.if-is-2.false (c.is-in-indices.ensures.1 (sym (read g at) ∙ e)))

pub returns-clause-none : goal.returns-clause-none
returns-clause-none g c =
    let full = take_all c.indices.index-index c.args.indices.now c.indices-test.false in inr (rw full at c.indices.invariant)
