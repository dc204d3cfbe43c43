use Rattle.std.proofs.Common.{◌≡◌, ℕ, ◌+◌, ◌<◌, List, length, get_or, map, Contains, ap, sym, ◌∙◌, subst, arith}
use Rattle.path_gains.specs.inner.Around.{IsRaisedOver}
use Rattle.path_gains.specs.inner.Spans.{HaveRoom, RaisesIn, shown_at}
use Rattle.path_gains.proofs.AroundLemmas.{IsAroundBelow-more, jump_fits, read_of, until_fits}
use Rattle.weighted_dag.specs.Graphs.{order_of, successors_of, weight_of}
use Rattle.path_gains.proofs.around.add_chains_at.Goals as goal

pub offset_bounds-into-vertex : goal.offset_bounds-into-vertex
offset_bounds-into-vertex g c = omega (arith, c.requires.into, c.requires.vertex)

pub bounds-into-vertex : goal.bounds-into-vertex
bounds-into-vertex g c = omega (arith, c.requires.into, c.requires.vertex)

pub offset_bounds-weights-vertex : goal.offset_bounds-weights-vertex
offset_bounds-weights-vertex g c = omega (arith, ap length c.weights-weights.ensures.weights, c.requires.vertex)

pub bounds-weights-vertex : goal.bounds-weights-vertex
bounds-weights-vertex g c = omega (arith, ap length c.weights-weights.ensures.weights, c.requires.vertex)

pub plus-until-requires : goal.plus-until-requires
plus-until-requires g c =
    let f = g.L.Length.value in
    let u = c.args.vertex in
    let d = c.args.dag.now in
    let fits = until_fits d c.weights-weights.ensures.form (map f c.args.into.now) (map f c.args.from.now) c.requires.lengths g.L.Length.limit c.requires.fits u c.requires.vertex in
    let read = read_of f c.args.into.now u c.index-into-vertex.result (omega (arith, c.requires.into, c.requires.vertex)) c.index-into-vertex.is in
    let weight : f c.of.result ≡ weight_of d u = c.of.ensures ∙ ap (λ (ws : List ℕ). get_or ws u 0) c.weights-weights.ensures.weights in
    omega (arith, fits, read, weight)

pub offset_bounds-from-vertex : goal.offset_bounds-from-vertex
offset_bounds-from-vertex g c = omega (arith, c.requires.from, c.requires.vertex)

pub bounds-from-vertex : goal.bounds-from-vertex
bounds-from-vertex g c = omega (arith, c.requires.from, c.requires.vertex)

pub raise_span-requires-clause-high : goal.raise_span-requires-clause-high
raise_span-requires-clause-high g c = omega (arith, c.requires.from, c.requires.vertex)

pub raise_span-requires-clause-room : goal.raise_span-requires-clause-room
raise_span-requires-clause-room g c = subst (λ (n : ℕ). HaveRoom n (length c.args.blocks.now)) (sym c.requires.from) c.requires.room

pub overflow_add-vertex : goal.overflow_add-vertex
overflow_add-vertex g c = let small = c.weights-weights.ensures.form.small in omega (arith, small, c.requires.vertex)

pub raise_span-requires-2-clause-high : goal.raise_span-requires-2-clause-high
raise_span-requires-2-clause-high g c = omega arith

pub raise_span-requires-2-clause-room : goal.raise_span-requires-2-clause-room
raise_span-requires-2-clause-room g c = subst (HaveRoom (length c.args.from.now)) (sym c.raise_span.auto.blocks) (subst (λ (n : ℕ). HaveRoom n (length c.args.blocks.now)) (sym c.requires.from) c.requires.room)

pub overflow_cast-vertex : goal.overflow_cast-vertex
overflow_cast-vertex g c = let small = c.weights-weights.ensures.form.small in omega (arith, small, c.requires.vertex)

pub successors-requires : goal.successors-requires
successors-requires g c = c.requires.vertex

pub overflow_add-vertex-2 : goal.overflow_add-vertex-2
overflow_add-vertex-2 g c = let small = c.weights-weights.ensures.form.small in omega (arith, small, c.requires.vertex)

pub raise_over-requires-clause-room : goal.raise_over-requires-clause-room
raise_over-requires-clause-room g c = subst (HaveRoom (length c.args.from.now)) (sym (c.raise_span-2.auto.blocks ∙ c.raise_span.auto.blocks)) (subst (λ (n : ℕ). HaveRoom n (length c.args.blocks.now)) (sym c.requires.from) c.requires.room)

pub raise_over-requires-clause-within : goal.raise_over-requires-clause-within
raise_over-requires-clause-within g c = λ y has.
    let edge = subst (λ (ys : List ℕ). Contains ys y) c.successors.ensures.successors has in
    let within = c.weights-weights.ensures.form.within c.args.vertex y edge in
    omega (arith, within, c.requires.from)

pub raise_over-requires-clause-fits : goal.raise_over-requires-clause-fits
raise_over-requires-clause-fits g c = λ y has.
    let f = g.L.Length.value in
    let u = c.args.vertex in
    let d = c.args.dag.now in
    let edge = subst (λ (ys : List ℕ). Contains ys y) c.successors.ensures.successors has in
    let fits = jump_fits d c.weights-weights.ensures.form (map f c.args.into.now) (map f c.args.from.now) c.requires.lengths g.L.Length.limit c.requires.fits u c.requires.vertex y edge in
    let read = read_of f c.args.into.now u c.index-into-vertex.result (omega (arith, c.requires.into, c.requires.vertex)) c.index-into-vertex.is in
    let weight : f c.of.result ≡ weight_of d u = c.of.ensures ∙ ap (λ (ws : List ℕ). get_or ws u 0) c.weights-weights.ensures.weights in
    omega (arith, fits, read, weight, c.plus-until.ensures)

pub returns : goal.returns
returns g c = λ v inside so.
    let f = g.L.Length.value in
    let u = c.args.vertex in
    let d = c.args.dag.now in
    let into = map f c.args.into.now in
    let from = map f c.args.from.now in
    let n = length c.args.from.now in
    let order : n ≡ order_of d = c.requires.from in
    let here : v < n = omega (arith, order, inside) in
    let read = read_of f c.args.into.now u c.index-into-vertex.result (omega (arith, c.requires.into, c.requires.vertex)) c.index-into-vertex.is in
    let start = read_of f c.args.from.now u c.index-from-vertex.result (omega (arith, c.requires.from, c.requires.vertex)) c.index-from-vertex.is in
    let weight : f c.of.result ≡ weight_of d u = c.of.ensures ∙ ap (λ (ws : List ℕ). get_or ws u 0) c.weights-weights.ensures.weights in
    let until : f c.plus-until.result ≡ get_or into u 0 + weight_of d u = omega (arith, read, weight, c.plus-until.ensures) in
    let old = map f c.args.blocks.now in
    let one = map f c.raise_span.new.blocks in
    let two = map f c.raise_span-2.new.blocks in
    let new = map f c.raise_over.new.blocks in
    let begins : RaisesIn 0 u (get_or from u 0) v (shown_at (order_of d) old v) (shown_at (order_of d) one v) =
    subst (λ (k : ℕ). RaisesIn 0 u (get_or from u 0) v (shown_at k old v) (shown_at k one v)) order
    (subst (λ (k : ℕ). RaisesIn 0 u k v (shown_at n old v) (shown_at n one v)) (sym start) (c.raise_span.ensures.raises v here)) in
    let ends : RaisesIn (u + 1) (order_of d) (get_or into u 0 + weight_of d u) v (shown_at (order_of d) one v) (shown_at (order_of d) two v) =
    subst (λ (k : ℕ). RaisesIn (u + 1) k (get_or into u 0 + weight_of d u) v (shown_at k one v) (shown_at k two v)) order
    (subst (λ (k : ℕ). RaisesIn (u + 1) n k v (shown_at n one v) (shown_at n two v)) until (c.raise_span-2.ensures.raises v here)) in
    let jumps : IsRaisedOver (successors_of d u) from (u + 1) (get_or into u 0 + weight_of d u) v (shown_at (order_of d) two v) (shown_at (order_of d) new v) =
    subst (λ (k : ℕ). IsRaisedOver (successors_of d u) from (u + 1) (get_or into u 0 + weight_of d u) v (shown_at k two v) (shown_at k new v)) order
    (subst (λ (k : ℕ). IsRaisedOver (successors_of d u) from (u + 1) k v (shown_at n two v) (shown_at n new v)) until
    (subst (λ (ys : List ℕ). IsRaisedOver ys from (u + 1) (f c.plus-until.result) v (shown_at n two v) (shown_at n new v)) c.successors.ensures.successors (c.raise_over.ensures v here))) in
    IsAroundBelow-more d c.weights-weights.ensures.form into from c.requires.lengths v u c.requires.vertex
    (shown_at (order_of d) old v) (shown_at (order_of d) one v) (shown_at (order_of d) two v) (shown_at (order_of d) new v) so begins ends jumps inside
