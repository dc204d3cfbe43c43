use Rattle.std.proofs.Common.{◌≡◌, ◌<◌, ◌≤◌, ℕ, List, length, arith, sym, subst}
use Rattle.graph_layers.specs.inner.Chains.{is_above}
use Rattle.graph_layers.specs.inner.Depths.{AreSmall}
use Rattle.graph_layers.proofs.LayerLemmas.{layers_done, rounds_more, rounds_start}
use Rattle.graph_layers.proofs.layering.find_layers.Goals as goal

pub rounds-init : goal.rounds-init
rounds-init c = rounds_start c.args.count (is_above c.args.count c.args.matrix.now) c.in_ok-layers.layers.items (c.in_ok-layers.ensures.items_if_clones_equal (λ y h. h))

pub next_layers-requires-clause-layers : goal.next_layers-requires-clause-layers
next_layers-requires-clause-layers c = subst (λ (l : List ℕ). length l ≡ c.args.count) (sym c.deref.ensures.value) c.rounds.invariant.size

pub next_layers-requires-clause-small : goal.next_layers-requires-clause-small
next_layers-requires-clause-small c =
    let inside : c.rounds.round < c.args.count = omega (arith, c.rounds-test.true) in
    let few : c.args.count ≤ 128 = c.requires.few in
    subst (AreSmall 1000) (sym c.deref.ensures.value) (λ i. omega (arith, c.rounds.invariant.small i, inside, few))

pub rounds-preserved : goal.rounds-preserved
rounds-preserved c =
    rounds_more c.args.count c.rounds.round (is_above c.args.count c.args.matrix.now) c.rounds.layers.items _ _ c.rounds.invariant c.deref.ensures.value c.in_ok-layers-2.ensures

pub returns-clause-layers : goal.returns-clause-layers
returns-clause-layers c =
    let last : c.rounds.round ≡ c.args.count = omega (arith, c.rounds-test.false, c.rounds.auto.round-end) in
    layers_done c.args.count c.args.pairs.now c.requires.below c.args.matrix.now c.requires.matrix c.rounds.round c.rounds.layers.items last c.rounds.invariant

pub returns-clause-small : goal.returns-clause-small
returns-clause-small c =
    let last : c.rounds.round ≡ c.args.count = omega (arith, c.rounds-test.false, c.rounds.auto.round-end) in
    subst (λ (k : ℕ). AreSmall k c.rounds.layers.items) last c.rounds.invariant.small
