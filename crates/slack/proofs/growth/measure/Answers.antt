use Rattle.std.proofs.Common.{◌≡◌, ℕ, ◌+◌, ◌-◌, ◌<◌, ◌≤◌, map, get_or, ap, sym, ◌∙◌, subst, arith}
use Rattle.std.proofs.lemmas.List.{get_or-map}
use Rattle.weighted_dag.specs.Graphs.{order_of}
use Rattle.weighted_dag.specs.Slacks.{IsSlack}
use Rattle.weighted_dag.proofs.LengthLemmas.{none_longer_than}
use Rattle.slack.proofs.GrowthLemmas.{pushed, longest_fits, through_below, IsSlack-lengths}
use Rattle.slack.proofs.growth.measure.Given.{Over}
use Rattle.slack.proofs.growth.measure.Goals as goal
use Rattle.slack.proofs.growth.measure.Goals.{After-index-in-vertices, After-vertices}

-- the vertex is in range
inside : (g : Over) (c : After-index-in-vertices g) → c.vertices.vertex < order_of c.args.dag.now
inside g c =
    let entries = c.in_ok-into.ensures.entries in
    let count = c.len-vertex-end.ensures in
    let ok = c.in_ok-into.into.ok.0 in
    omega arith

-- the greatest length of what leads to the vertex, as it was read
into : (g : Over) (c : After-index-in-vertices g) → g.L.Length.value c.index.result.now ≡ get_or (map g.L.Length.value c.in_ok-into.into.items) c.vertices.vertex 0
into g c =
    let f = g.L.Length.value in
    let entries = c.in_ok-into.ensures.entries in
    let within = inside g c in
    sym (get_or-map f c.in_ok-into.into.items c.vertices.vertex c.index.result.now 0 (omega arith) ∙ ap f (sym c.index.ensures))

-- the greatest length from the vertex, as it was read
from : (g : Over) (c : After-index-in-vertices g) → g.L.Length.value c.index-in-vertices.result.now ≡ get_or (map g.L.Length.value c.in_ok-from.field-0.from.items) c.vertices.vertex 0
from g c =
    let f = g.L.Length.value in
    let entries = c.in_ok-from.ensures.entries in
    let within = inside g c in
    sym (get_or-map f c.in_ok-from.field-0.from.items c.vertices.vertex c.index-in-vertices.result.now 0 (omega arith) ∙ ap f (sym c.index-in-vertices.ensures))

-- no chain through the vertex is longer than the longest
through : (g : Over) (c : After-index-in-vertices g) → g.L.Length.value c.index.result.now + g.L.Length.value c.index-in-vertices.result.now ≤ g.L.Length.value c.in_ok-from.field-0.longest
through g c =
    let f = g.L.Length.value in
    let d = c.args.dag.now in
    let v = c.vertices.vertex in
    let a = into g c in
    let b = from g c in
    let most = f c.in_ok-from.field-0.longest in
    let longest = c.in_ok-from.ensures.longest in
    let low = through_below d c.lengths_from.ensures.form v (inside g c) (get_or (map f c.in_ok-into.into.items) v 0) (get_or (map f c.in_ok-from.field-0.from.items) v 0) most (c.in_ok-into.ensures.longest v (inside g c)) (c.in_ok-from.ensures.from v (inside g c)) (none_longer_than d most longest) longest in
    omega arith

pub plus-through-requires : goal.plus-through-requires
plus-through-requires g c =
    let low = through g (goal.at.plus-through-requires g c).After-index-in-vertices in
    let fits = longest_fits c.args.dag.now (g.L.Length.value c.in_ok-from.field-0.longest) g.L.Length.limit c.in_ok-from.ensures.longest c.requires.fits in
    omega arith

pub minus-slack-requires : goal.minus-slack-requires
minus-slack-requires g c =
    let low = through g (goal.at.minus-slack-requires g c).After-index-in-vertices in
    let is = c.plus-through.ensures in
    omega arith

pub vertices-preserved : goal.vertices-preserved
vertices-preserved g c =
    let at = (goal.at.vertices-preserved g c).After-index-in-vertices in
    let f = g.L.Length.value in
    let slack : ℕ → ℕ = λ (k : ℕ). f c.in_ok-from.field-0.longest - (get_or (map f c.in_ok-into.into.items) k 0 + get_or (map f c.in_ok-from.field-0.from.items) k 0) in
    let a = into g at in
    let b = from g at in
    let sum = c.plus-through.ensures in
    let rest = c.minus-slack.ensures in
    let is = c.to_u128.ensures in
    let so : c.to_u128.result ≡ slack c.vertices.vertex = omega arith in
    rw c.in_ok-push.ensures.items (pushed slack c.vertices.slacks.items c.vertices.vertex c.to_u128.result c.vertices.invariant so)

-- each entry is the slack of its vertex
entry : (g : Over) (c : After-vertices g) (v : ℕ) → v < order_of c.args.dag.now → IsSlack c.args.dag.now v (get_or c.vertices.slacks.items v 0)
entry g c v inside =
    let f = g.L.Length.value in
    let d = c.args.dag.now in
    let most = f c.in_ok-from.field-0.longest in
    let longest = c.in_ok-from.ensures.longest in
    let entries = c.in_ok-into.ensures.entries in
    let count = c.len-vertex-end.ensures in
    let ok = c.in_ok-into.into.ok.0 in
    let is = c.vertices.invariant.1 v (omega arith) in
    subst (λ (n : ℕ). IsSlack d v n) (sym is)
    (IsSlack-lengths d c.lengths_from.ensures.form v inside (get_or (map f c.in_ok-into.into.items) v 0) (get_or (map f c.in_ok-from.field-0.from.items) v 0) most (c.in_ok-into.ensures.longest v inside) (c.in_ok-from.ensures.from v inside) (none_longer_than d most longest) longest)

pub returns-clause-slack : goal.returns-clause-slack
returns-clause-slack g c = entry g (goal.at.returns-clause-slack g c).After-vertices

pub returns-clause-one_more_moves : goal.returns-clause-one_more_moves
returns-clause-one_more_moves g c = λ v inside k.
    let greatest = (entry g (goal.at.returns-clause-one_more_moves g c).After-vertices v inside).greatest (get_or c.vertices.slacks.items v 0 + 1) k in
    omega arith
