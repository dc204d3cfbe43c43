use Rattle.std.proofs.Common.{◌≡◌, ℕ, List, arith, get_or, set, map, max, ap, sym, ◌∙◌, subst}
use Rattle.std.proofs.lemmas.List.{get_or-map, map-set, length-map}
use Rattle.path_gains.specs.inner.Spans.{RaisesBlock, shown_at}
use Rattle.path_gains.proofs.SpanLemmas.{RaisesBlock-at}
use Rattle.path_gains.proofs.spans.raise_block.Goals as goal

pub returns : goal.returns
returns g c = λ v.
    let f = g.L.Length.value in
    let old = c.args.blocks.now in
    let p = c.args.place in
    let least : ℕ = f c.args.least in
    let read : get_or (map f old) p 0 ≡ f c.index-blocks-place.result = get_or-map f old p c.index-blocks-place.result 0 c.requires ∙ ap f (sym c.index-blocks-place.is) in
    let value : f c.or_greater.result ≡ max (get_or (map f old) p 0) least = c.or_greater.ensures ∙ ap (λ (n : ℕ). max n least) (sym read) in
    let is : map f (set old p c.or_greater.result) ≡ set (map f old) p (max (get_or (map f old) p 0) least) = map-set f old p c.or_greater.result ∙ ap (set (map f old) p) value in
    subst (λ (ys : List ℕ). RaisesBlock c.args.count p least v (shown_at c.args.count (map f old) v) (shown_at c.args.count ys v)) (sym is)
    (RaisesBlock-at c.args.count (map f old) p least v (let mapped = length-map old f in let inside = c.requires in omega arith))
