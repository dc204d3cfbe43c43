use Rattle.std.proofs.Common.{◌≡◌, ℕ, ◌+◌, ◌<◌, List, length, get_or, drop, map, replicate, ap, ◌∙◌, subst, sym, arith}
use Rattle.std.proofs.lemmas.List.{take_at, get_or-map, length-map, length-replicate, get_or-replicate}
use Rattle.std.proofs.lemmas.List.Elements.{Contains-get_or}
use Rattle.weighted_dag.specs.Graphs.{order_of, weight_of, successors_of}
use Rattle.slack.specs.inner.Passes.{RaisesAt}
use Rattle.slack.proofs.IntoLemmas.{IsPassedBelow-none, IsPassedBelow-more, IsLongestInto-below, through_fits}
use Rattle.path_gains.proofs.forward.lengths_into.Given.{Over}
use Rattle.path_gains.proofs.forward.lengths_into.Goals as goal
use Rattle.path_gains.proofs.forward.lengths_into.Goals.{After-of-in-vertices}

pub vertices-init : goal.vertices-init
vertices-init g c =
    let f = g.L.Length.value in
    let n = length c.weights-weights.result.now in
    let zero = c.of.ensures in
    let all : c.in_ok-lengths.lengths.items ≡ replicate n c.of.result = c.in_ok-lengths.ensures.items_if_clones_equal (λ y h. g.met.L.Length.clone_is_same c.of.result y h) in
    let order = ap length c.weights-weights.ensures.weights in
    let entries = length-replicate n c.of.result in
    let mapped = length-map (replicate n c.of.result) f in
    rw all
    (IsPassedBelow-none c.args.dag.now (map f (replicate n c.of.result)) (omega arith)
    (λ k h. let within : k < n = omega arith in get_or-map f (replicate n c.of.result) k c.of.result 0 (omega arith) ∙ ap f (get_or-replicate n k c.of.result c.of.result within) ∙ zero))

-- the vertex is in range
inside : (g : Over) (c : After-of-in-vertices g) → c.vertices.vertex < order_of c.args.dag.now
inside g c = let order = ap length c.weights-weights.ensures.weights in omega arith

-- the length of what leads to the vertex, as it was read
read : (g : Over) (c : After-of-in-vertices g) → g.L.Length.value c.index.result.now ≡ get_or (map g.L.Length.value c.vertices.lengths.items) c.vertices.vertex 0
read g c =
    let f = g.L.Length.value in
    let old = c.vertices.lengths.items in
    let u = c.vertices.vertex in
    let entries = c.vertices.invariant.entries in
    let mapped = length-map old f in
    let in_range = inside g c in
    let within : u < length old = omega arith in
    sym (get_or-map f old u c.index.result.now 0 within ∙ ap f (sym c.index.ensures))

-- the weight of the vertex, as it was read
weight : (g : Over) (c : After-of-in-vertices g) → g.L.Length.value c.of-in-vertices.result ≡ weight_of c.args.dag.now c.vertices.vertex
weight g c = c.of-in-vertices.ensures ∙ ap (λ (ws : List ℕ). get_or ws c.vertices.vertex 0) c.weights-weights.ensures.weights

pub plus-through-requires : goal.plus-through-requires
plus-through-requires g c =
    let is = read g c in
    let w = weight g c in
    let fits = through_fits c.args.dag.now c.weights-weights.ensures.form c.vertices.vertex (inside g c) (map g.L.Length.value c.vertices.lengths.items) g.L.Length.limit c.vertices.invariant c.requires.fits in
    omega arith

pub raise_each-requires : goal.raise_each-requires
raise_each-requires g c =
    let mapped = length-map c.vertices.lengths.items g.L.Length.value in
    let entries : length c.deref_mut.result.now ≡ order_of c.args.dag.now = ap length c.deref_mut.ensures.value ∙ sym mapped ∙ c.vertices.invariant.entries in
    rw c.successors.ensures.successors
    (λ k d h. let inside = c.successors.ensures.form.within c.vertices.vertex (get_or (successors_of c.args.dag.now c.vertices.vertex) k d) (Contains-get_or (successors_of c.args.dag.now c.vertices.vertex) k d h) in omega arith)

pub vertices-preserved : goal.vertices-preserved
vertices-preserved g c =
    let at = (goal.at.vertices-preserved g c).After-of-in-vertices in
    let f = g.L.Length.value in
    let d = c.args.dag.now in
    let u = c.vertices.vertex in
    let old = c.vertices.lengths.items in
    let new = c.raise_each.new.numbers in
    let length_same : length new ≡ length old = c.raise_each.auto.numbers ∙ ap length c.deref_mut.ensures.value in
    let mapped : length (map f new) ≡ length (map f old) = length-map new f ∙ length_same ∙ sym (length-map old f) in
    let through : f c.plus-through.result ≡ get_or (map f old) u 0 + f c.of-in-vertices.result = c.plus-through.ensures ∙ ap (λ (n : ℕ). n + f c.of-in-vertices.result) (read g at) in
    let raises : (k : ℕ) → RaisesAt (successors_of d u) (get_or (map f old) u 0 + f c.of-in-vertices.result) (map f old) (map f new) k = λ k.
    let a = c.raise_each.ensures k in
    let b = subst (λ (xs : List ℕ). RaisesAt c.successors.result.now (f c.plus-through.result) xs (map f new) k) (ap (map f) c.deref_mut.ensures.value) a in
    let e = subst (λ (ps : List ℕ). RaisesAt ps (f c.plus-through.result) (map f old) (map f new) k) c.successors.ensures.successors b in
    subst (λ (m : ℕ). RaisesAt (successors_of d u) m (map f old) (map f new) k) through e in
    rw (take_at new (drop (length new) old) c.vertices.lengths.len (omega (arith, c.vertices.lengths.ok.0)))
    (IsPassedBelow-more d c.weights-weights.ensures.form u (inside g at) (map f old) (map f new) (f c.of-in-vertices.result) c.vertices.invariant (weight g at) raises mapped)

pub returns-clause-longest : goal.returns-clause-longest
returns-clause-longest g c = λ k h.
    let order = ap length c.weights-weights.ensures.weights in
    IsLongestInto-below c.args.dag.now c.weights-weights.ensures.form c.vertices.vertex k (get_or (map g.L.Length.value c.vertices.lengths.items) k 0) (omega arith) (c.vertices.invariant.longest k h)
