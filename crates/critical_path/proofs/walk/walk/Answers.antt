use Rattle.std.proofs.Common.{◌≡◌, ◌≢◌, ℕ, ◌<◌, ◌⊎◌, All, List, Option, Some, IfSome, IfNone, length, map, get_or, ap, ◌∙◌, subst, arith}
use Rattle.std.proofs.lemmas.List.{length-map}
use Rattle.std.proofs.lemmas.List.Elements.{Contains-get_or}
use Rattle.weighted_dag.specs.Graphs.{order_of, weight_of, successors_of}
use Rattle.critical_path.specs.inner.Walks.{IsFirstIndexOf}
use Rattle.critical_path.proofs.WalkLemmas.{IsWalk, start_walk, step_walk, walk_smaller, weight_below}
use Rattle.critical_path.proofs.walk.walk.Given.{Over}
use Rattle.critical_path.proofs.walk.walk.Goals as goal
use Rattle.critical_path.proofs.walk.walk.Goals.{In_ok-push, After-of, After-minus-left}

-- a length for each vertex
entries : (g : Over) (c : In_ok-push g) → length (map g.L.Length.value c.args.lengths.now) ≡ order_of c.args.dag.now
entries g c = length-map c.args.lengths.now g.L.Length.value ∙ c.requires.entries

pub chain-init : goal.chain-init
chain-init g c =
    let value = g.L.Length.value in
    let mapped = length-map c.args.lengths.now value in
    let size = c.requires.entries in
    let f = c.first_start-next.ensures in
    let within : IfSome c.first_start-next.result (λ v. v < length (map value c.args.lengths.now)) = subst (λ (n : ℕ). IfSome c.first_start-next.result (λ v. v < n)) (omega arith) f.within in
    rw c.in_ok-vertices.ensures.items
    (start_walk c.args.dag.now c.weights-weights.ensures.form (map value c.args.lengths.now) (value c.args.longest) (mapped ∙ size) c.requires.from c.requires.longest c.first_start-next.result f.positive within f.is f.first f.none)

-- what is known before the vertex is taken
taken : (g : Over) (c : In_ok-push g) → IsWalk c.args.dag.now (map g.L.Length.value c.args.lengths.now) (g.L.Length.value c.args.longest) c.chain.vertices.items (g.L.Length.value c.chain.left) (Some c.in-Some.vertex)
taken g c = subst (λ (r : Option ℕ). IsWalk c.args.dag.now (map g.L.Length.value c.args.lengths.now) (g.L.Length.value c.args.longest) c.chain.vertices.items (g.L.Length.value c.chain.left) r) c.in-Some.is c.chain.invariant

pub bounds-weights-vertex : goal.bounds-weights-vertex
bounds-weights-vertex g c =
    let so = taken g (goal.at.bounds-weights-vertex g c).In_ok-push in
    let order = ap length c.weights-weights.ensures.weights in
    let inside = so.0 in
    omega arith

-- the weight of the vertex, as it was read
weight : (g : Over) (c : After-of g) → g.L.Length.value c.of.result ≡ weight_of c.args.dag.now c.in-Some.vertex
weight g c = c.of.ensures ∙ ap (λ (ws : List ℕ). get_or ws c.in-Some.vertex 0) c.weights-weights.ensures.weights

pub minus-left-requires : goal.minus-left-requires
minus-left-requires g c =
    let so = taken g (goal.at.minus-left-requires g c).In_ok-push in
    let low = weight_below c.args.dag.now c.weights-weights.ensures.form (map g.L.Length.value c.args.lengths.now) (g.L.Length.value c.args.longest) c.requires.from c.in-Some.vertex so.0 in
    let at = so.1 in
    let is = weight g c in
    omega arith

pub successors-requires : goal.successors-requires
successors-requires g c = (taken g (goal.at.successors-requires g c).In_ok-push).0

pub first_with-next-requires-clause-within : goal.first_with-next-requires-clause-within
first_with-next-requires-clause-within g c =
    let entries = c.requires.entries in
    rw c.successors.ensures.successors
    (λ k d h. let inside = c.successors.ensures.form.within c.in-Some.vertex (get_or (successors_of c.args.dag.now c.in-Some.vertex) k d) (Contains-get_or (successors_of c.args.dag.now c.in-Some.vertex) k d h) in omega arith)

pub chain-smaller : goal.chain-smaller
chain-smaller g c =
    let at = (goal.at.chain-smaller g c).In_ok-push in
    let value = g.L.Length.value in
    let so = taken g at in
    let place = subst (λ (ps : List ℕ). IfSome c.first_with-next.result (IsFirstIndexOf (map value c.args.lengths.now) ps (value c.minus-left.result))) c.successors.ensures.successors c.first_with-next.ensures.first in
    rw c.in-Some.is (walk_smaller c.args.dag.now c.weights-weights.ensures.form (map value c.args.lengths.now) (value c.args.longest) (entries g at) c.requires.from c.in-Some.vertex (value c.minus-left.result) so.0 c.first_with-next.result place)

pub chain-preserved : goal.chain-preserved
chain-preserved g c =
    let at = (goal.at.chain-preserved g c).In_ok-push in
    let value = g.L.Length.value in
    let v = c.in-Some.vertex in
    let left = value c.minus-left.result in
    let successors = c.successors.ensures.successors in
    let f = c.first_with-next.ensures in
    let place = subst (λ (ps : List ℕ). IfSome c.first_with-next.result (IsFirstIndexOf (map value c.args.lengths.now) ps left)) successors f.first in
    let none = subst (λ (ps : List ℕ). IfNone c.first_with-next.result ((left ≡ 0) ⊎ All (λ p. get_or (map value c.args.lengths.now) p 0 ≢ left) ps)) successors f.none in
    rw c.in_ok-push.ensures.items
    (step_walk c.args.dag.now c.weights-weights.ensures.form (map value c.args.lengths.now) (value c.args.longest) (entries g at) c.requires.from c.chain.vertices.items (value c.chain.left) v (value c.of.result) left
    (taken g at) (weight g (goal.at.chain-preserved g c).After-of) c.minus-left.ensures c.first_with-next.result f.positive place none)

pub returns : goal.returns
returns g c = subst (λ (r : Option ℕ). IsWalk c.args.dag.now (map g.L.Length.value c.args.lengths.now) (g.L.Length.value c.args.longest) c.chain.vertices.items (g.L.Length.value c.chain.left) r) c.in_default.is c.chain.invariant
