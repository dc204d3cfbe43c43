use Rattle.std.proofs.Common.{◌≡◌, ℕ, ◌+◌, ◌-◌, ◌<◌, List, length, map, ap, subst, arith}
use Rattle.std.proofs.lemmas.List.{length-map, map-set}
use Rattle.weighted_dag.specs.Graphs.{order_of, weight_of, successors_of, with_weights}
use Rattle.weighted_dag.proofs.LengthLemmas.{IsGraph-with_weights, IsKnownFrom, IsGreatestAt, successors_within, IsKnownFrom-step, IsLongestFrom-step, IsLongestFrom-lt, IsLongestLength-known}
use Rattle.weighted_dag.proofs.lengths.lengths_over.Given.{Over}
use Rattle.weighted_dag.proofs.lengths.lengths_over.Goals as goal
use Rattle.weighted_dag.proofs.lengths.lengths_over.Goals.{After-of-in-vertices}

pub greatest_at-after-requires : goal.greatest_at-after-requires
greatest_at-after-requires g c =
    let entries = c.vertices.invariant.entries in
    let mapped = length-map c.vertices.from.items g.L.Length.value in
    let same = ap length c.deref.ensures.value in
    rw c.successors.ensures.successors (λ k d h. let w = successors_within c.args.dag.now c.successors.ensures.form (c.vertices.vertex - 1) k d h in omega arith)

-- the vertex is in range
inside : (g : Over) (c : After-of-in-vertices g) → c.vertices.vertex - 1 < order_of (with_weights c.args.dag.now c.args.weights.now)
inside g c = let same = ap length c.weights-count.ensures.weights in let size = c.requires.entries in omega arith

-- what is known of the later vertices
known : (g : Over) (c : After-of-in-vertices g) → IsKnownFrom (with_weights c.args.dag.now c.args.weights.now) ((c.vertices.vertex - 1) + 1) (map g.L.Length.value c.vertices.from.items) (g.L.Length.value c.vertices.longest)
known g c =
    let e : c.vertices.vertex ≡ (c.vertices.vertex - 1) + 1 = omega arith in
    subst (λ (n : ℕ). IsKnownFrom (with_weights c.args.dag.now c.args.weights.now) n (map g.L.Length.value c.vertices.from.items) (g.L.Length.value c.vertices.longest)) e c.vertices.invariant

-- the greatest length after the vertex
most : (g : Over) (c : After-of-in-vertices g) → IsGreatestAt (map g.L.Length.value c.vertices.from.items) (successors_of (with_weights c.args.dag.now c.args.weights.now) (c.vertices.vertex - 1)) (successors_of (with_weights c.args.dag.now c.args.weights.now) (c.vertices.vertex - 1)) (g.L.Length.value c.greatest_at-after.result)
most g c =
    let f = g.L.Length.value in
    let n = f c.greatest_at-after.result in
    let raw : IsGreatestAt (map f c.deref.result.now) c.successors.result.now c.successors.result.now n = record { upper = c.greatest_at-after.ensures.upper; reached = c.greatest_at-after.ensures.reached } in
    let numbers : IsGreatestAt (map f c.vertices.from.items) c.successors.result.now c.successors.result.now n =
    subst (λ (xs : List ℕ). IsGreatestAt xs c.successors.result.now c.successors.result.now n) (ap (map f) c.deref.ensures.value) raw in
    subst (λ (ps : List ℕ). IsGreatestAt (map f c.vertices.from.items) ps ps n) c.successors.ensures.successors numbers

-- the weight of the vertex, as it was read
weight : (g : Over) (c : After-of-in-vertices g) → g.L.Length.value c.of-in-vertices.result ≡ weight_of (with_weights c.args.dag.now c.args.weights.now) (c.vertices.vertex - 1)
weight g c = c.of-in-vertices.ensures

pub plus-length-requires : goal.plus-length-requires
plus-length-requires g c =
    let d = with_weights c.args.dag.now c.args.weights.now in
    let v = c.vertices.vertex - 1 in
    let after = g.L.Length.value c.greatest_at-after.result in
    let form = IsGraph-with_weights c.args.dag.now c.args.weights.now c.successors.ensures.form c.requires.entries in
    let here = IsLongestFrom-step d v (map g.L.Length.value c.vertices.from.items) (g.L.Length.value c.vertices.longest) after form (inside g c) (known g c) (most g c) in
    let small = IsLongestFrom-lt d v (weight_of d v + after) g.L.Length.limit here c.requires.fits in
    let is = weight g c in
    omega arith

pub vertices-preserved : goal.vertices-preserved
vertices-preserved g c =
    let at = (goal.at.vertices-preserved g c).After-of-in-vertices in
    let f = g.L.Length.value in
    let v = c.vertices.vertex - 1 in
    let sum = c.plus-length.ensures in
    let greater = c.or_greater-longest.ensures in
    let step = IsKnownFrom-step (with_weights c.args.dag.now c.args.weights.now) v (map f c.vertices.from.items) (f c.vertices.longest) (f c.of-in-vertices.result) (f c.greatest_at-after.result) (IsGraph-with_weights c.args.dag.now c.args.weights.now c.successors.ensures.form c.requires.entries) (inside g at) (weight g at) (known g at) (most g at) in
    rw (map-set f c.vertices.from.items v c.plus-length.result, greater, sum) step

pub returns-clause-from : goal.returns-clause-from
returns-clause-from g c = λ k h. c.vertices.invariant.from k (omega arith) h

pub returns-clause-longest : goal.returns-clause-longest
returns-clause-longest g c = IsLongestLength-known (with_weights c.args.dag.now c.args.weights.now) c.vertices.vertex (map g.L.Length.value c.vertices.from.items) (g.L.Length.value c.vertices.longest) (omega arith) c.vertices.invariant
