use Rattle.std.proofs.Common.{rules, ◌≡◌, ℕ, List, length, map, drop, ap, sym, ◌∙◌, subst, arith}
use Rattle.std.proofs.lemmas.List.{take_at}
use Rattle.path_gains.specs.inner.Around.{IsAroundBelow}
use Rattle.path_gains.specs.inner.Spans.{HaveRoom, shown_at}
use Rattle.path_gains.proofs.AroundLemmas.{IsAroundBelow-less, IsAroundBelow-none}
use Rattle.weighted_dag.specs.Graphs.{order_of}
use Rattle.path_gains.proofs.around.lengths_around.Goals as goal

pub zero_blocks-requires : goal.zero_blocks-requires
zero_blocks-requires g c = let small = c.weights-weights.ensures.form.small in omega (arith, small, ap length c.weights-weights.ensures.weights)

pub returns-in_err-blocks-clause-count : goal.returns-in_err-blocks-clause-count
returns-in_err-blocks-clause-count g c = search rules

pub returns-in_err-blocks-clause-around : goal.returns-in_err-blocks-clause-around
returns-in_err-blocks-clause-around g c = search rules

pub vertices-init : goal.vertices-init
vertices-init g c =
    let f = g.L.Length.value in
    let d = c.args.dag.now in
    let order : length c.weights-weights.result.now ≡ order_of d = ap length c.weights-weights.ensures.weights in
    record {
      room = subst (λ (n : ℕ). HaveRoom n (length c.in_ok-blocks.blocks.items)) order c.in_ok-blocks.ensures.room;
      around = λ v inside. subst (IsAroundBelow d (map f c.args.into.now) (map f c.args.from.now) 0 v)
          (sym (ap (λ (n : ℕ). shown_at n (map f c.in_ok-blocks.blocks.items) v) (sym order) ∙ c.in_ok-blocks.ensures.zero v))
          (IsAroundBelow-none d (map f c.args.into.now) (map f c.args.from.now) v);
    }

pub add_chains_at-requires-clause-room : goal.add_chains_at-requires-clause-room
add_chains_at-requires-clause-room g c = subst (HaveRoom (order_of c.args.dag.now)) (sym (ap length c.deref_mut.ensures.value)) c.vertices.invariant.room

pub add_chains_at-requires-clause-into : goal.add_chains_at-requires-clause-into
add_chains_at-requires-clause-into g c = c.requires.into

pub add_chains_at-requires-clause-from : goal.add_chains_at-requires-clause-from
add_chains_at-requires-clause-from g c = c.requires.from

pub add_chains_at-requires-clause-lengths : goal.add_chains_at-requires-clause-lengths
add_chains_at-requires-clause-lengths g c = c.requires.lengths

pub add_chains_at-requires-clause-fits : goal.add_chains_at-requires-clause-fits
add_chains_at-requires-clause-fits g c = c.requires.fits

pub add_chains_at-requires-clause-vertex : goal.add_chains_at-requires-clause-vertex
add_chains_at-requires-clause-vertex g c = omega (arith, c.vertices-test.true, ap length c.weights-weights.ensures.weights)

pub vertices-preserved : goal.vertices-preserved
vertices-preserved g c =
    let f = g.L.Length.value in
    let d = c.args.dag.now in
    let old = c.vertices.blocks.items in
    let new = c.add_chains_at.new.blocks in
    let size : length new ≡ length old = c.add_chains_at.auto.blocks ∙ ap length c.deref_mut.ensures.value in
    rw (take_at new (drop (length new) old) c.vertices.blocks.len (omega (arith, c.vertices.blocks.ok.0)))
    record {
      room = subst (HaveRoom (order_of d)) (sym size) c.vertices.invariant.room;
      around = λ v inside. c.add_chains_at.ensures v inside
          (subst (λ (bs : List g.row.L.Denot). IsAroundBelow d (map f c.args.into.now) (map f c.args.from.now) c.vertices.vertex v (shown_at (order_of d) (map f bs) v)) (sym c.deref_mut.ensures.value) (c.vertices.invariant.around v inside));
    }

pub into_numbers-requires : goal.into_numbers-requires
into_numbers-requires g c = subst (λ (n : ℕ). HaveRoom n (length c.vertices.blocks.items)) (sym (ap length c.weights-weights.ensures.weights)) c.vertices.invariant.room

pub returns-clause-count : goal.returns-clause-count
returns-clause-count g c = c.into_numbers.ensures.count ∙ ap length c.weights-weights.ensures.weights

pub returns-clause-around : goal.returns-clause-around
returns-clause-around g c = λ v inside.
    let f = g.L.Length.value in
    let d = c.args.dag.now in
    let order : length c.weights-weights.result.now ≡ order_of d = ap length c.weights-weights.ensures.weights in
    let done = c.vertices-test.false in
    subst (IsAroundBelow d (map f c.args.into.now) (map f c.args.from.now) (order_of d) v)
    (sym (c.into_numbers.ensures.numbers v (omega (arith, order, inside)) ∙ ap (λ (n : ℕ). shown_at n (map f c.vertices.blocks.items) v) order))
    (IsAroundBelow-less d (map f c.args.into.now) (map f c.args.from.now) (order_of d) c.vertices.vertex v (shown_at (order_of d) (map f c.vertices.blocks.items) v) (omega (arith, order, done)) (c.vertices.invariant.around v inside))
