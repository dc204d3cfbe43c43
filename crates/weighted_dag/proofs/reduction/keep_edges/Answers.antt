use Rattle.std.proofs.Common.{◌≡◌, ℕ, ◌<◌, ◌≤◌, List, length, get_or, ap, ◌∙◌, subst, arith}
use Rattle.std.proofs.lemmas.List.{take_all}
use Rattle.weighted_dag.specs.Graphs.{order_of, successors_of}
use Rattle.weighted_dag.proofs.KeepingLemmas.{edge_at, kept_below, kept_step, dropped_step, IsReachOf-all, IsReducedAt-all}
use Rattle.std.proofs.lemmas.Bool.{both_ways}
use Rattle.weighted_dag.specs.inner.BitSets.{Has, words_for}
use Rattle.weighted_dag.specs.inner.ReductionSteps.{IsReachOf}
use Rattle.weighted_dag.proofs.ReducingLemmas.{set_room, set_reached}
use Rattle.weighted_dag.proofs.reduction.keep_edges.Goals as goal
use Rattle.weighted_dag.proofs.reduction.keep_edges.Goals.{After-set_of, then-not-contains+in_ok-edge, else-not-contains}

pub contains-requires : goal.contains-requires
contains-requires c =
    let s = c.successors-successor-items in
    let within = s.ensures.form.within c.args.vertex _ (edge_at c.args.dag.now c.args.vertex s.result.now c.successors.successor-index s.ensures.successors c.successors-test.true) in
    let room = c.successors.invariant.room in
    omega arith

pub edge-requires-clause-later : goal.edge-requires-clause-later
edge-requires-clause-later c =
    let s = c.successors-successor-items in
    s.ensures.form.later c.args.vertex _ (edge_at c.args.dag.now c.args.vertex s.result.now c.successors.successor-index s.ensures.successors c.successors-test.true)

pub edge-requires-clause-within : goal.edge-requires-clause-within
edge-requires-clause-within c =
    let s = c.successors-successor-items in
    let within = s.ensures.form.within c.args.vertex _ (edge_at c.args.dag.now c.args.vertex s.result.now c.successors.successor-index s.ensures.successors c.successors-test.true) in
    let same = ap length c.successors.invariant.weights in
    omega arith

pub edge-requires-clause-above : goal.edge-requires-clause-above
edge-requires-clause-above c =
    let s = c.successors-successor-items in
    let inside : c.successors.successor-index < length (successors_of c.args.dag.now c.args.vertex) = subst (λ (l : List ℕ). c.successors.successor-index < length l) s.ensures.successors c.successors-test.true in
    rw s.ensures.successors (kept_below c.args.dag.now c.args.reduced.now c.successors.reduced s.ensures.form c.args.vertex c.successors.successor-index c.successors.set inside c.successors.invariant)

pub insert-requires : goal.insert-requires
insert-requires c =
    let s = c.successors-successor-items in
    let within = s.ensures.form.within c.args.vertex _ (edge_at c.args.dag.now c.args.vertex s.result.now c.successors.successor-index s.ensures.successors c.successors-test.true) in
    let room = c.successors.invariant.room in
    omega arith

pub overflow_sub-count-then-not-contains : goal.overflow_sub-count-then-not-contains
overflow_sub-count-then-not-contains c =
    let s = c.successors-successor-items in
    let within = s.ensures.form.within c.args.vertex _ (edge_at c.args.dag.now c.args.vertex s.result.now c.successors.successor-index s.ensures.successors c.successors-test.true) in
    let same = ap length c.weights-count.ensures.weights in
    omega arith

pub set_of-requires : goal.set_of-requires
set_of-requires c =
    let s = c.successors-successor-items in
    let edge = edge_at c.args.dag.now c.args.vertex s.result.now c.successors.successor-index s.ensures.successors c.successors-test.true in
    let size : length c.words-size.result.now ≡ words_for (order_of c.args.dag.now) = ap length c.words-size.ensures ∙ c.insert.ensures.room ∙ c.successors.invariant.room in
    set_room c.args.dag.now c.args.vertex (get_or s.result.now c.successors.successor-index 0) (length c.weights-count.result.now) (length c.words-size.result.now) c.args.reached.now
    c.requires.reached (ap length c.weights-count.ensures.weights) size
    (s.ensures.form.later c.args.vertex _ edge) (s.ensures.form.within c.args.vertex _ edge)

-- the set of the vertices that the successor leads to
reach_at : (c : After-set_of) → IsReachOf c.args.dag.now (get_or c.successors-successor-items.result.now c.successors.successor-index 0) c.set_of.result.now
reach_at c =
    let s = c.successors-successor-items in
    let edge = edge_at c.args.dag.now c.args.vertex s.result.now c.successors.successor-index s.ensures.successors c.successors-test.true in
    let size : length c.words-size.result.now ≡ words_for (order_of c.args.dag.now) = ap length c.words-size.ensures ∙ c.insert.ensures.room ∙ c.successors.invariant.room in
    set_reached c.args.dag.now c.args.vertex (get_or s.result.now c.successors.successor-index 0) (length c.weights-count.result.now) (length c.words-size.result.now) c.args.reached.now c.set_of.result.now
    c.requires.reached (ap length c.weights-count.ensures.weights) size
    (s.ensures.form.later c.args.vertex _ edge) (s.ensures.form.within c.args.vertex _ edge) c.set_of.ensures

pub unite-requires : goal.unite-requires
unite-requires c =
    let reach = (reach_at c).room in
    let room = c.successors.invariant.room in
    let same = c.insert.ensures.room in
    omega arith

pub successors-preserved : goal.successors-preserved
successors-preserved c =
    let s = c.successors-successor-items in
    let g = c.args.dag.now in
    let v = c.args.vertex in
    let i = c.successors.successor-index in
    let inside : i < length (successors_of g v) = subst (λ (l : List ℕ). i < length l) s.ensures.successors c.successors-test.true in
    let x_is : get_or s.result.now i 0 ≡ get_or (successors_of g v) i 0 = ap (λ (l : List ℕ). get_or l i 0) s.ensures.successors in
    elim c.if-not-contains.branch [
      | then-not-contains+in_ok-edge w ↦
          let edge = edge_at g v s.result.now i s.ensures.successors c.successors-test.true in
          let size : length w.words-size.result.now ≡ words_for (order_of g) = ap length w.words-size.ensures ∙ w.insert.ensures.room ∙ c.successors.invariant.room in
          let reach = set_reached g v (get_or s.result.now i 0) (length c.weights-count.result.now) (length w.words-size.result.now) c.args.reached.now w.set_of.result.now
          c.requires.reached (ap length c.weights-count.ensures.weights) size
          (s.ensures.form.later v _ edge) (s.ensures.form.within v _ edge) w.set_of.ensures in
          let hasnt : ¬ Has c.successors.set (get_or s.result.now i 0) = λ (h : Has c.successors.set (get_or s.result.now i 0)). both_ways c.contains.result w.if-not-contains.true (c.contains.ensures.1 h) in
          rw (w.reduced-is, w.set-is)
          (kept_step g c.args.reduced.now c.successors.reduced s.ensures.form v i c.successors.set inside c.successors.invariant (get_or s.result.now i 0) x_is
          w.edge.new.self w.in_ok-edge.ensures.ok w.in_ok-edge.ensures.form c.requires.vertex hasnt
          w.set_of.result.now w.insert.new.self w.unite.new.self reach (w.unite.ensures.room ∙ w.insert.ensures.room) w.insert.ensures.has w.unite.ensures.has)
      | else-not-contains w ↦
          rw (w.reduced-is, w.set-is)
          (dropped_step g c.args.reduced.now c.successors.reduced s.ensures.form v i c.successors.set inside c.successors.invariant (get_or s.result.now i 0) x_is
          (c.contains.ensures.0 w.if-not-contains.false))
    ]

pub returns-clause-set : goal.returns-clause-set
returns-clause-set c =
    let s = c.successors-successor-items in
    let past : length (successors_of c.args.dag.now c.args.vertex) ≤ c.successors.successor-index = subst (λ (l : List ℕ). length l ≤ c.successors.successor-index) s.ensures.successors c.successors-test.false in
    let full = take_all c.successors.successor-index (successors_of c.args.dag.now c.args.vertex) past in
    IsReachOf-all c.args.dag.now c.args.reduced.now c.successors.reduced s.ensures.form c.args.vertex c.successors.set (rw full at c.successors.invariant)

pub returns-clause-edges : goal.returns-clause-edges
returns-clause-edges c =
    let s = c.successors-successor-items in
    let past : length (successors_of c.args.dag.now c.args.vertex) ≤ c.successors.successor-index = subst (λ (l : List ℕ). length l ≤ c.successors.successor-index) s.ensures.successors c.successors-test.false in
    let full = take_all c.successors.successor-index (successors_of c.args.dag.now c.args.vertex) past in
    IsReducedAt-all c.args.dag.now c.args.reduced.now c.successors.reduced s.ensures.form c.args.vertex c.successors.set (rw full at c.successors.invariant)
