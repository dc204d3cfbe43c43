use Rattle.std.proofs.Common.{◌≡◌, ℕ, ◌+◌, ◌-◌, ◌++◌, length, ap, subst, arith}
use Rattle.weighted_dag.specs.inner.ReductionSteps.{IsReducedAt}
use Rattle.weighted_dag.proofs.ReducingLemmas.{IsReducedFrom, IsReducedFrom-more}
use Rattle.weighted_dag.proofs.ReducedLemmas.{edges, reachability, longest}
use Rattle.weighted_dag.proofs.reduction.reduce.Goals as goal
use Rattle.weighted_dag.proofs.reduction.reduce.Goals.{After-vertices}

pub vertices-preserved : goal.vertices-preserved
vertices-preserved c =
    let v = c.vertices.vertex - 1 in
    let next : c.vertices.vertex ≡ v + 1 = omega arith in
    let so : IsReducedFrom c.args.dag.now c.vertices.reduced (v + 1) c.vertices.reached.items =
    subst (λ (n : ℕ). IsReducedFrom c.args.dag.now c.vertices.reduced n c.vertices.reached.items) next c.vertices.invariant.0 in
    let order = ap length c.weights-weights.ensures.weights in
    let of = c.in_ok-keep_edges.ensures in
    let more : IsReducedFrom c.args.dag.now c.keep_edges.new.reduced v (c.vertices.reached.items ++ c.keep_edges.new.set) =
    IsReducedFrom-more c.args.dag.now c.vertices.reduced c.keep_edges.new.reduced v c.vertices.reached.items c.keep_edges.new.set (omega arith) so of.set of.edges of.others of.same_weights of.form in
    (rw (c.in_ok-extend_from_slice.ensures.items, c.words-in-vertices.ensures) more, of.set.room)

-- each vertex is done
all_done : (c : After-vertices) → (a : ℕ) → IsReducedAt c.args.dag.now c.vertices.reduced a
all_done c a = let zero : c.vertices.vertex ≡ 0 = omega arith in c.vertices.invariant.0.done a (omega arith)

pub returns-clause-edges : goal.returns-clause-edges
returns-clause-edges c =
    edges c.args.dag.now c.vertices.reduced c.weights-weights.ensures.form c.vertices.invariant.0.form c.vertices.invariant.0.weights (all_done (goal.at.returns-clause-edges c).After-vertices)

pub returns-clause-dropped : goal.returns-clause-dropped
returns-clause-dropped c = λ a b e. (all_done (goal.at.returns-clause-dropped c).After-vertices a).others b e

pub returns-clause-reachability : goal.returns-clause-reachability
returns-clause-reachability c =
    reachability c.args.dag.now c.vertices.reduced c.weights-weights.ensures.form c.vertices.invariant.0.form c.vertices.invariant.0.weights (all_done (goal.at.returns-clause-reachability c).After-vertices)

pub returns-clause-longest : goal.returns-clause-longest
returns-clause-longest c =
    longest c.args.dag.now c.vertices.reduced c.weights-weights.ensures.form c.vertices.invariant.0.form c.vertices.invariant.0.weights (all_done (goal.at.returns-clause-longest c).After-vertices)
