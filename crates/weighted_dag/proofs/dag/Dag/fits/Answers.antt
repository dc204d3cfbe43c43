use Rattle.std.proofs.Common.{◌≡◌, ℕ, ◌<◌, ◌≤◌, false, List, [], length, get_or, ⊎_elim, refl, sym, ◌∙◌, subst, arith}
use Rattle.std.proofs.lemmas.Bool.{both_ways, cases_lt}
use Rattle.std.proofs.lemmas.List.{get_or_read}
use Rattle.weighted_dag.specs.Graphs.{Graph}
use Rattle.weighted_dag.specs.inner.SuccessorLists.{AreSuccessors}
use Rattle.weighted_dag.proofs.SuccessorListLemmas.{IsGraph-lists, AreSuccessors-graph}
use Rattle.weighted_dag.proofs.dag.Dag.fits.Goals as goal
use Rattle.weighted_dag.proofs.dag.Dag.fits.Goals.{After-are_successors}

-- the list of the vertex, as it was read
list : (c : After-are_successors) → c.items.result.now ≡ get_or c.args.successors.now c.vertices.vertex []
list c = c.items.ensures ∙ get_or_read c.args.successors.now c.vertices.vertex c.index-successors-vertex.result c.vertices-test.true c.index-successors-vertex.is []

pub returns-then-not-are_successors : goal.returns-then-not-are_successors
returns-then-not-are_successors c = (
  λ e. absurd (both_ways false refl e),
  λ form.
      let at = (goal.at.returns-then-not-are_successors c).After-are_successors in
      let g : Graph = record { weights = c.args.weights.now; successors = c.args.successors.now } in
      let good = AreSuccessors-graph g form c.vertices.vertex in
      let here = subst (λ (xs : List ℕ). AreSuccessors c.vertices.vertex (length c.args.weights.now) xs) (sym (list at)) good in
      absurd (both_ways c.are_successors.result c.if-not-are_successors.true (c.are_successors.ensures.1 here)),
)

pub vertices-preserved : goal.vertices-preserved
vertices-preserved c = λ k h. ⊎_elim
    (λ (l : k < c.vertices.vertex). c.vertices.invariant k l)
    (λ (l : c.vertices.vertex ≤ k).
    let at = (goal.at.vertices-preserved c).After-are_successors in
    let same : c.vertices.vertex ≡ k = omega arith in
    let good = c.are_successors.ensures.0 c.if-not-are_successors.false in
    let here = subst (λ (xs : List ℕ). AreSuccessors c.vertices.vertex (length c.args.weights.now) xs) (list at) good in
    subst (λ (j : ℕ). AreSuccessors j (length c.args.weights.now) (get_or c.args.successors.now j [])) same here)
    (cases_lt k c.vertices.vertex)

pub returns : goal.returns
returns c = (
  λ e. IsGraph-lists (record { weights = c.args.weights.now; successors = c.args.successors.now }) (omega arith) (omega arith) (λ v h. c.vertices.invariant v (omega arith)),
  λ form. refl,
)
