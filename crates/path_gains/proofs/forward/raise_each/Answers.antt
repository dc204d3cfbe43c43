use Rattle.std.proofs.Common.{◌≡◌, ℕ, ◌<◌, List, length, map, get_or, ap, sym, ◌∙◌, subst, arith}
use Rattle.std.proofs.lemmas.List.{take_all, get_or-map, map-set, length-map}
use Rattle.std.proofs.lemmas.List.Elements.{All-get_or}
use Rattle.slack.specs.inner.Passes.{RaisesAt}
use Rattle.slack.proofs.IntoLemmas.{RaisesAt-more}
use Rattle.path_gains.proofs.forward.raise_each.Goals as goal

pub indices-preserved : goal.indices-preserved
indices-preserved g c =
    let f = g.L.Length.value in
    let numbers = c.indices.numbers in
    let i : ℕ = get_or c.args.indices.now c.indices.index-index 0 in
    let room = All-get_or (λ p. p < length c.args.numbers.now) c.args.indices.now c.indices.index-index 0 c.indices-test.true c.requires in
    let same = c.indices.auto.numbers in
    let mapped = length-map numbers f in
    let within : i < length numbers = omega arith in
    let read : get_or (map f numbers) i 0 ≡ f c.index-numbers-at.result = get_or-map f numbers i c.index-numbers-at.result 0 within ∙ ap f (sym c.index-numbers-at.is) in
    let more = RaisesAt-more c.args.indices.now (map f c.args.numbers.now) (map f numbers) (f c.args.least) c.indices.index-index c.indices-test.true (omega arith) c.indices.invariant in
    rw (map-set f numbers i c.or_greater.result, c.or_greater.ensures) (rw read at more)

pub returns : goal.returns
returns g c = λ k.
    let f = g.L.Length.value in
    let P : List ℕ → Type 0 = λ (p : List ℕ). RaisesAt p (f c.args.least) (map f c.args.numbers.now) (map f c.indices.numbers) k in
    subst P (take_all c.indices.index-index c.args.indices.now c.indices-test.false) (c.indices.invariant k)
