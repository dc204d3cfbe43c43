use Rattle.std.proofs.Common.{◌≡◌, ℕ, ◌<◌, List, [], ◌∷◌, ◌++◌, ap, ◌∙◌, subst, sym, set, arith, All}
use Rattle.std.proofs.lemmas.List.{get_or_read}
use Rattle.weighted_dag.specs.Graphs.{Graph, IsGraph, order_of, successors_of}
use Rattle.weighted_dag.proofs.EdgeLemmas.{IsGraph-with_edge}
use Rattle.weighted_dag.proofs.dag.Dag.edge.Goals as goal

-- the fields with the new edge form a graph
grown : (c : goal.In_ok-push) → IsGraph (record { weights = c.self.inside.weights.items; successors = set c.self.inside.successors.items c.args.from c.push.new.self })
grown c =
    let g : Graph = record { weights = c.self.inside.weights.items; successors = c.self.inside.successors.items } in
    let form : IsGraph g = c.self.invariant in
    let is : g ≡ c.args.self.now = c.self.view_is in
    let within : c.args.to < order_of g = subst (λ (x : Graph). c.args.to < order_of x) (sym is) c.requires.within in
    let above : All (λ s. s < c.args.to) (successors_of g c.args.from) = subst (λ (x : Graph). All (λ s. s < c.args.to) (successors_of x c.args.from)) (sym is) c.requires.above in
    let later = c.requires.later in
    let lists = form.lists in
    let list = get_or_read g.successors c.args.from c.index_mut-list.result.now (omega arith) c.index_mut-list.ensures.value [] in
    let new : c.push.new.self ≡ successors_of g c.args.from ++ c.args.to ∷ [] = c.in_ok-push.ensures.ok ∙ ap (λ (l : List ℕ). l ++ c.args.to ∷ []) list in
    rw new (IsGraph-with_edge g c.args.from c.args.to form later within above)

pub invariant_of-self-2 : goal.invariant_of-self-2
invariant_of-self-2 c = grown c

pub returns-clause-form : goal.returns-clause-form
returns-clause-form c = grown c
