use Rattle.std.proofs.Common.{◌≡◌, ℕ, ◌+◌, List, length, get_or, map, refl, ap, sym, ◌∙◌, subst, arith}
use Rattle.std.proofs.lemmas.List.{take_all, get_or-map}
use Rattle.std.proofs.lemmas.List.Elements.{Contains-get_or}
use Rattle.path_gains.specs.inner.Around.{IsRaisedOver}
use Rattle.path_gains.specs.inner.Spans.{RaisesIn, shown_at}
use Rattle.path_gains.proofs.AroundLemmas.{IsRaisedOver-none, IsRaisedOver-more}
use Rattle.path_gains.proofs.around.raise_over.Goals as goal

pub indices-init : goal.indices-init
indices-init g c = λ v inside. IsRaisedOver-none (map g.L.Length.value c.args.from.now) c.args.low (g.L.Length.value c.args.until) v (shown_at (length c.args.from.now) (map g.L.Length.value c.args.blocks.now) v)

pub bounds-from-index : goal.bounds-from-index
bounds-from-index g c = c.requires.within (get_or c.args.indices.now c.indices.index-index 0) (Contains-get_or c.args.indices.now c.indices.index-index 0 c.indices-test.true)

pub offset_bounds-from-index : goal.offset_bounds-from-index
offset_bounds-from-index g c = let inside = c.requires.within (get_or c.args.indices.now c.indices.index-index 0) (Contains-get_or c.args.indices.now c.indices.index-index 0 c.indices-test.true) in omega arith

pub plus-requires : goal.plus-requires
plus-requires g c =
    let f = g.L.Length.value in
    let from = c.args.from.now in
    let y = get_or c.args.indices.now c.indices.index-index 0 in
    let has = Contains-get_or c.args.indices.now c.indices.index-index 0 c.indices-test.true in
    let read : get_or (map f from) y 0 ≡ f c.index-from-index.result = get_or-map f from y c.index-from-index.result 0 (c.requires.within y has) ∙ ap f (sym c.index-from-index.is) in
    let fits = c.requires.fits y has in
    omega arith

pub raise_span-requires-clause-high : goal.raise_span-requires-clause-high
raise_span-requires-clause-high g c = let inside = c.requires.within (get_or c.args.indices.now c.indices.index-index 0) (Contains-get_or c.args.indices.now c.indices.index-index 0 c.indices-test.true) in omega arith

pub indices-preserved : goal.indices-preserved
indices-preserved g c = λ v inside.
    let f = g.L.Length.value in
    let from = c.args.from.now in
    let n = length c.args.from.now in
    let y = get_or c.args.indices.now c.indices.index-index 0 in
    let has = Contains-get_or c.args.indices.now c.indices.index-index 0 c.indices-test.true in
    let read : get_or (map f from) y 0 ≡ f c.index-from-index.result = get_or-map f from y c.index-from-index.result 0 (c.requires.within y has) ∙ ap f (sym c.index-from-index.is) in
    let sum : f c.plus.result ≡ f c.args.until + get_or (map f from) y 0 = c.plus.ensures ∙ ap (λ (k : ℕ). f c.args.until + k) (sym read) in
    IsRaisedOver-more c.args.indices.now (map f from) c.args.low (f c.args.until) v (shown_at n (map f c.args.blocks.now) v) (shown_at n (map f c.indices.blocks) v) (shown_at n (map f c.raise_span.new.blocks) v) c.indices.index-index y c.indices-test.true refl (c.indices.invariant v inside)
    (subst (λ (k : ℕ). RaisesIn c.args.low y k v (shown_at n (map f c.indices.blocks) v) (shown_at n (map f c.raise_span.new.blocks) v)) sum (c.raise_span.ensures.raises v inside))

pub returns : goal.returns
returns g c = λ v inside.
    let f = g.L.Length.value in
    let n = length c.args.from.now in
    subst (λ (p : List ℕ). IsRaisedOver p (map f c.args.from.now) c.args.low (f c.args.until) v (shown_at n (map f c.args.blocks.now) v) (shown_at n (map f c.indices.blocks) v)) (take_all c.indices.index-index c.args.indices.now c.indices-test.false) (c.indices.invariant v inside)
