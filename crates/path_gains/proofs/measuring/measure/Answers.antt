use Rattle.std.proofs.Common.{rules, ◌≡◌, ℕ, ◌+◌, ◌-◌, ◌/◌, ◌<◌, List, max, length, get_or, map, ap, sym, ◌∙◌, subst, arith}
use Rattle.path_gains.specs.Gains.{IsGain}
use Rattle.path_gains.specs.inner.Around.{AreLengths, IsAroundBelow}
use Rattle.path_gains.proofs.AroundLemmas.{read_of}
use Rattle.path_gains.proofs.LossLemmas.{IsGain-lengths, around_le, pushed_each, through_le, weight_le}
use Rattle.slack.proofs.GrowthLemmas.{longest_fits}
use Rattle.weighted_dag.specs.Chains.{IsLongestLength}
use Rattle.weighted_dag.specs.Graphs.{order_of, weight_of}
use Rattle.path_gains.proofs.measuring.measure.Goals as goal

pub lengths_from-requires : goal.lengths_from-requires
lengths_from-requires g c = search rules

pub returns-in_err-from-clause-entries : goal.returns-in_err-from-clause-entries
returns-in_err-from-clause-entries g c = search rules

pub returns-in_err-from-clause-gains : goal.returns-in_err-from-clause-gains
returns-in_err-from-clause-gains g c = search rules

pub lengths_into-requires : goal.lengths_into-requires
lengths_into-requires g c = search rules

pub returns-in_err-into-clause-entries : goal.returns-in_err-into-clause-entries
returns-in_err-into-clause-entries g c = search rules

pub returns-in_err-into-clause-gains : goal.returns-in_err-into-clause-gains
returns-in_err-into-clause-gains g c = search rules

pub lengths_around-requires-clause-into : goal.lengths_around-requires-clause-into
lengths_around-requires-clause-into g c = ap length c.deref.ensures.value ∙ c.in_ok-into.ensures.entries

pub lengths_around-requires-clause-from : goal.lengths_around-requires-clause-from
lengths_around-requires-clause-from g c = ap length c.deref-2.ensures.value ∙ c.in_ok-from.ensures.entries

pub lengths_around-requires-clause-lengths : goal.lengths_around-requires-clause-lengths
lengths_around-requires-clause-lengths g c =
    let f = g.L.Length.value in
    let d = c.args.dag.now in
    let are : AreLengths d (map f c.in_ok-into.into.items) (map f c.in_ok-from.field-0.from.items) = record { into_is = c.in_ok-into.ensures.longest; from_is = c.in_ok-from.ensures.from } in
    subst (λ (xs : List g.row.L.Denot). AreLengths d (map f xs) (map f c.deref-2.result.now)) (sym c.deref.ensures.value)
    (subst (λ (xs : List g.row.L.Denot). AreLengths d (map f c.in_ok-into.into.items) (map f xs)) (sym c.deref-2.ensures.value) are)

pub lengths_around-requires-clause-fits : goal.lengths_around-requires-clause-fits
lengths_around-requires-clause-fits g c = c.requires.fits

pub returns-in_err-around-clause-entries : goal.returns-in_err-around-clause-entries
returns-in_err-around-clause-entries g c = search rules

pub returns-in_err-around-clause-gains : goal.returns-in_err-around-clause-gains
returns-in_err-around-clause-gains g c = search rules

pub returns-in_err-gains-clause-entries : goal.returns-in_err-gains-clause-entries
returns-in_err-gains-clause-entries g c = search rules

pub returns-in_err-gains-clause-gains : goal.returns-in_err-gains-clause-gains
returns-in_err-gains-clause-gains g c = search rules

pub vertices-init : goal.vertices-init
vertices-init g c = (ap length c.in_ok-gains.ensures.items, λ k d low. absurd (omega arith))

pub offset_bounds-weights-vertex : goal.offset_bounds-weights-vertex
offset_bounds-weights-vertex g c = omega (arith, c.vertices-test.true)

pub bounds-weights-vertex : goal.bounds-weights-vertex
bounds-weights-vertex g c = omega (arith, c.vertices-test.true)

pub index-requires : goal.index-requires
index-requires g c = omega (arith, c.vertices-test.true, ap length c.weights-weights.ensures.weights, c.in_ok-around.ensures.count, c.in_ok-around.around.ok.0)

pub index-requires-in-vertices : goal.index-requires-in-vertices
index-requires-in-vertices g c = omega (arith, c.vertices-test.true, ap length c.weights-weights.ensures.weights, c.in_ok-into.ensures.entries, c.in_ok-into.into.ok.0)

pub index-requires-in-vertices-2 : goal.index-requires-in-vertices-2
index-requires-in-vertices-2 g c = omega (arith, c.vertices-test.true, ap length c.weights-weights.ensures.weights, c.in_ok-from.ensures.entries, c.in_ok-from.field-0.from.ok.0)

pub gain_at-gain-requires-clause-fits : goal.gain_at-gain-requires-clause-fits
gain_at-gain-requires-clause-fits g c =
    let f = g.L.Length.value in
    let d = c.args.dag.now in
    let v = c.vertices.vertex in
    let form = c.weights-weights.ensures.form in
    let inside : v < order_of d = omega (arith, c.vertices-test.true, ap length c.weights-weights.ensures.weights) in
    let into = map f c.in_ok-into.into.items in
    let from = map f c.in_ok-from.field-0.from.items in
    let are : AreLengths d into from = record { into_is = c.in_ok-into.ensures.longest; from_is = c.in_ok-from.ensures.from } in
    let around = get_or (map f c.in_ok-around.around.items) v 0 in
    let so : IsAroundBelow d into from (order_of d) v around =
    subst (λ (xs : List g.row.L.Denot). IsAroundBelow d into (map f xs) (order_of d) v around) c.deref-2.ensures.value
    (subst (λ (xs : List g.row.L.Denot). IsAroundBelow d (map f xs) (map f c.deref-2.result.now) (order_of d) v around) c.deref.ensures.value (c.in_ok-around.ensures.around v inside)) in
    let most = f c.in_ok-from.field-0.longest in
    let longest : IsLongestLength d most = c.in_ok-from.ensures.longest in
    let past : around ≡ f c.index.result.now = read_of f c.in_ok-around.around.items v c.index.result.now (omega (arith, inside, c.in_ok-around.ensures.count)) c.index.ensures in
    let before : get_or into v 0 ≡ f c.index-in-vertices.result.now = read_of f c.in_ok-into.into.items v c.index-in-vertices.result.now (omega (arith, inside, c.in_ok-into.ensures.entries)) c.index-in-vertices.ensures in
    let after : get_or from v 0 ≡ f c.index-in-vertices-2.result.now = read_of f c.in_ok-from.field-0.from.items v c.index-in-vertices-2.result.now (omega (arith, inside, c.in_ok-from.ensures.entries)) c.index-in-vertices-2.ensures in
    let weight : get_or c.weights-weights.result.now v 0 ≡ weight_of d v = ap (λ (ws : List ℕ). get_or ws v 0) c.weights-weights.ensures.weights in
    let low = through_le d form into from are v around inside so most longest in
    let fits = longest_fits d most g.L.Length.limit longest c.requires.fits in
    omega (arith, low, fits, before, after)

pub gain_at-gain-requires-clause-around : goal.gain_at-gain-requires-clause-around
gain_at-gain-requires-clause-around g c =
    let f = g.L.Length.value in
    let d = c.args.dag.now in
    let v = c.vertices.vertex in
    let form = c.weights-weights.ensures.form in
    let inside : v < order_of d = omega (arith, c.vertices-test.true, ap length c.weights-weights.ensures.weights) in
    let into = map f c.in_ok-into.into.items in
    let from = map f c.in_ok-from.field-0.from.items in
    let are : AreLengths d into from = record { into_is = c.in_ok-into.ensures.longest; from_is = c.in_ok-from.ensures.from } in
    let around = get_or (map f c.in_ok-around.around.items) v 0 in
    let so : IsAroundBelow d into from (order_of d) v around =
    subst (λ (xs : List g.row.L.Denot). IsAroundBelow d into (map f xs) (order_of d) v around) c.deref-2.ensures.value
    (subst (λ (xs : List g.row.L.Denot). IsAroundBelow d (map f xs) (map f c.deref-2.result.now) (order_of d) v around) c.deref.ensures.value (c.in_ok-around.ensures.around v inside)) in
    let most = f c.in_ok-from.field-0.longest in
    let longest : IsLongestLength d most = c.in_ok-from.ensures.longest in
    let past : around ≡ f c.index.result.now = read_of f c.in_ok-around.around.items v c.index.result.now (omega (arith, inside, c.in_ok-around.ensures.count)) c.index.ensures in
    let before : get_or into v 0 ≡ f c.index-in-vertices.result.now = read_of f c.in_ok-into.into.items v c.index-in-vertices.result.now (omega (arith, inside, c.in_ok-into.ensures.entries)) c.index-in-vertices.ensures in
    let after : get_or from v 0 ≡ f c.index-in-vertices-2.result.now = read_of f c.in_ok-from.field-0.from.items v c.index-in-vertices-2.result.now (omega (arith, inside, c.in_ok-from.ensures.entries)) c.index-in-vertices-2.ensures in
    let weight : get_or c.weights-weights.result.now v 0 ≡ weight_of d v = ap (λ (ws : List ℕ). get_or ws v 0) c.weights-weights.ensures.weights in
    let low = around_le d form into from are v around inside so most longest in
    omega (arith, low, past)

pub gain_at-gain-requires-clause-through : goal.gain_at-gain-requires-clause-through
gain_at-gain-requires-clause-through g c =
    let f = g.L.Length.value in
    let d = c.args.dag.now in
    let v = c.vertices.vertex in
    let form = c.weights-weights.ensures.form in
    let inside : v < order_of d = omega (arith, c.vertices-test.true, ap length c.weights-weights.ensures.weights) in
    let into = map f c.in_ok-into.into.items in
    let from = map f c.in_ok-from.field-0.from.items in
    let are : AreLengths d into from = record { into_is = c.in_ok-into.ensures.longest; from_is = c.in_ok-from.ensures.from } in
    let around = get_or (map f c.in_ok-around.around.items) v 0 in
    let so : IsAroundBelow d into from (order_of d) v around =
    subst (λ (xs : List g.row.L.Denot). IsAroundBelow d into (map f xs) (order_of d) v around) c.deref-2.ensures.value
    (subst (λ (xs : List g.row.L.Denot). IsAroundBelow d (map f xs) (map f c.deref-2.result.now) (order_of d) v around) c.deref.ensures.value (c.in_ok-around.ensures.around v inside)) in
    let most = f c.in_ok-from.field-0.longest in
    let longest : IsLongestLength d most = c.in_ok-from.ensures.longest in
    let past : around ≡ f c.index.result.now = read_of f c.in_ok-around.around.items v c.index.result.now (omega (arith, inside, c.in_ok-around.ensures.count)) c.index.ensures in
    let before : get_or into v 0 ≡ f c.index-in-vertices.result.now = read_of f c.in_ok-into.into.items v c.index-in-vertices.result.now (omega (arith, inside, c.in_ok-into.ensures.entries)) c.index-in-vertices.ensures in
    let after : get_or from v 0 ≡ f c.index-in-vertices-2.result.now = read_of f c.in_ok-from.field-0.from.items v c.index-in-vertices-2.result.now (omega (arith, inside, c.in_ok-from.ensures.entries)) c.index-in-vertices-2.ensures in
    let weight : get_or c.weights-weights.result.now v 0 ≡ weight_of d v = ap (λ (ws : List ℕ). get_or ws v 0) c.weights-weights.ensures.weights in
    let low = through_le d form into from are v around inside so most longest in
    omega (arith, low, before, after)

pub gain_at-gain-requires-clause-weight : goal.gain_at-gain-requires-clause-weight
gain_at-gain-requires-clause-weight g c =
    let f = g.L.Length.value in
    let d = c.args.dag.now in
    let v = c.vertices.vertex in
    let form = c.weights-weights.ensures.form in
    let inside : v < order_of d = omega (arith, c.vertices-test.true, ap length c.weights-weights.ensures.weights) in
    let into = map f c.in_ok-into.into.items in
    let from = map f c.in_ok-from.field-0.from.items in
    let are : AreLengths d into from = record { into_is = c.in_ok-into.ensures.longest; from_is = c.in_ok-from.ensures.from } in
    let around = get_or (map f c.in_ok-around.around.items) v 0 in
    let so : IsAroundBelow d into from (order_of d) v around =
    subst (λ (xs : List g.row.L.Denot). IsAroundBelow d into (map f xs) (order_of d) v around) c.deref-2.ensures.value
    (subst (λ (xs : List g.row.L.Denot). IsAroundBelow d (map f xs) (map f c.deref-2.result.now) (order_of d) v around) c.deref.ensures.value (c.in_ok-around.ensures.around v inside)) in
    let most = f c.in_ok-from.field-0.longest in
    let longest : IsLongestLength d most = c.in_ok-from.ensures.longest in
    let past : around ≡ f c.index.result.now = read_of f c.in_ok-around.around.items v c.index.result.now (omega (arith, inside, c.in_ok-around.ensures.count)) c.index.ensures in
    let before : get_or into v 0 ≡ f c.index-in-vertices.result.now = read_of f c.in_ok-into.into.items v c.index-in-vertices.result.now (omega (arith, inside, c.in_ok-into.ensures.entries)) c.index-in-vertices.ensures in
    let after : get_or from v 0 ≡ f c.index-in-vertices-2.result.now = read_of f c.in_ok-from.field-0.from.items v c.index-in-vertices-2.result.now (omega (arith, inside, c.in_ok-from.ensures.entries)) c.index-in-vertices-2.ensures in
    let weight : get_or c.weights-weights.result.now v 0 ≡ weight_of d v = ap (λ (ws : List ℕ). get_or ws v 0) c.weights-weights.ensures.weights in
    let low = weight_le d form into from are v around inside so in
    omega (arith, low, before, after, weight)

pub returns-in_err-push-clause-entries : goal.returns-in_err-push-clause-entries
returns-in_err-push-clause-entries g c = search rules

pub returns-in_err-push-clause-gains : goal.returns-in_err-push-clause-gains
returns-in_err-push-clause-gains g c = search rules

pub vertices-preserved : goal.vertices-preserved
vertices-preserved g c =
    let f = g.L.Length.value in
    let d = c.args.dag.now in
    let v = c.vertices.vertex in
    let form = c.weights-weights.ensures.form in
    let inside : v < order_of d = omega (arith, c.vertices-test.true, ap length c.weights-weights.ensures.weights) in
    let into = map f c.in_ok-into.into.items in
    let from = map f c.in_ok-from.field-0.from.items in
    let are : AreLengths d into from = record { into_is = c.in_ok-into.ensures.longest; from_is = c.in_ok-from.ensures.from } in
    let around = get_or (map f c.in_ok-around.around.items) v 0 in
    let so : IsAroundBelow d into from (order_of d) v around =
    subst (λ (xs : List g.row.L.Denot). IsAroundBelow d into (map f xs) (order_of d) v around) c.deref-2.ensures.value
    (subst (λ (xs : List g.row.L.Denot). IsAroundBelow d (map f xs) (map f c.deref-2.result.now) (order_of d) v around) c.deref.ensures.value (c.in_ok-around.ensures.around v inside)) in
    let most = f c.in_ok-from.field-0.longest in
    let longest : IsLongestLength d most = c.in_ok-from.ensures.longest in
    let past : around ≡ f c.index.result.now = read_of f c.in_ok-around.around.items v c.index.result.now (omega (arith, inside, c.in_ok-around.ensures.count)) c.index.ensures in
    let before : get_or into v 0 ≡ f c.index-in-vertices.result.now = read_of f c.in_ok-into.into.items v c.index-in-vertices.result.now (omega (arith, inside, c.in_ok-into.ensures.entries)) c.index-in-vertices.ensures in
    let after : get_or from v 0 ≡ f c.index-in-vertices-2.result.now = read_of f c.in_ok-from.field-0.from.items v c.index-in-vertices-2.result.now (omega (arith, inside, c.in_ok-from.ensures.entries)) c.index-in-vertices-2.ensures in
    let weight : get_or c.weights-weights.result.now v 0 ≡ weight_of d v = ap (λ (ws : List ℕ). get_or ws v 0) c.weights-weights.ensures.weights in
    let gain = c.gain_at-gain.result in
    let own = c.gain_at-gain.ensures in
    let none : gain.none ≡ most - max around (get_or into v 0 + get_or from v 0 - weight_of d v) = omega (arith, own.none, past, before, after, weight) in
    let half : gain.half ≡ most - max around (get_or into v 0 + get_or from v 0 - (weight_of d v - weight_of d v / 2)) = omega (arith, own.half, past, before, after, weight) in
    let is : IsGain d v gain = IsGain-lengths d form into from are v around inside so most longest gain none half in
    rw c.in_ok-push.ensures.items (pushed_each (IsGain d) c.vertices.gains.items v gain c.vertices.invariant is)

pub returns-clause-entries : goal.returns-clause-entries
returns-clause-entries g c = omega (arith, c.vertices.invariant.0, c.vertices.auto.vertex-end, c.vertices-test.false, ap length c.weights-weights.ensures.weights)

pub returns-clause-gains : goal.returns-clause-gains
returns-clause-gains g c = λ v d inside. c.vertices.invariant.1 v d (omega (arith, c.vertices-test.false, inside, ap length c.weights-weights.ensures.weights))
