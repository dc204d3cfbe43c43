use Rattle.std.proofs.Common.{◌≡◌, ℕ, ◌≤◌, sum, length, ◌∙◌, ap, subst, arith}
use Rattle.std.proofs.lemmas.List.{take_all}
use Rattle.std.proofs.lemmas.List.Sums.{sum_by_more}
use Rattle.weighted_dag.specs.Graphs.{IsGraph, order_of, with_weights}
use Rattle.weighted_dag.proofs.LengthLemmas.{IsGraph-with_weights, chain_length-le-sum}
use Rattle.weighted_dag.proofs.dag.Dag.total_with.Goals as goal
use Rattle.weighted_dag.proofs.dag.Dag.total_with.Goals.{After-len-vertex-end, After-vertices}

-- a weight for each vertex
size : (c : After-len-vertex-end) → length c.args.weights.now ≡ c.len-vertex-end.result
size c =
    let order : length c.self.inside.weights.items ≡ order_of c.args.self.now = ap order_of c.self.view_is in
    let ok = c.self.inside.weights.ok.0 in
    let count = c.len-vertex-end.ensures in
    let given = c.requires in
    omega arith

pub vertices-preserved : goal.vertices-preserved
vertices-preserved c =
    let same = size (goal.at.vertices-preserved c).After-len-vertex-end in
    let more = sum_by_more (λ (x : ℕ). x) c.args.weights.now c.vertices.vertex 0 (omega arith) in
    let so = c.vertices.invariant.0 in
    let low = c.vertices.invariant.1 in
    let is = c.from-total.ensures in
    let fits = c.type_inv.weights c.vertices.vertex in
    (omega arith, omega arith)

-- all weights are added
all : (c : After-vertices) → length c.args.weights.now ≡ c.len-vertex-end.result → c.vertices.total ≡ sum c.args.weights.now
all c same =
    let past : length c.args.weights.now ≤ c.vertices.vertex = omega arith in
    c.vertices.invariant.0 ∙ ap sum (take_all c.vertices.vertex c.args.weights.now past)

pub returns-clause-sum : goal.returns-clause-sum
returns-clause-sum c = all c (size (goal.at.returns-clause-sum c).After-len-vertex-end)

pub returns-clause-none_longer : goal.returns-clause-none_longer
returns-clause-none_longer c = λ d h.
    let is = all c (size (goal.at.returns-clause-none_longer c).After-len-vertex-end) in
    let form : IsGraph c.args.self.now = subst IsGraph c.self.view_is c.self.invariant in
    let most = chain_length-le-sum (with_weights c.args.self.now c.args.weights.now) (IsGraph-with_weights c.args.self.now c.args.weights.now form c.requires) d h in
    omega arith
