use Rattle.std.proofs.Common.{◌≡◌, get_or, slice_get, Some, sym, ap, ◌∙◌, take}
use Rattle.std.proofs.lemmas.List.{take_more}
use Rattle.std.proofs.lemmas.Option.{slice_get-get_or}
use Rattle.std.proofs.lemmas.Slice.Zip.{all_zipped_more}
use Rattle.trace_rules.specs.CriticalPaths.{StandsFor}
use Rattle.trace_figures.proofs.one_path.segments_on.Goals as goal

pub chain-preserved : goal.chain-preserved
chain-preserved c =
    let segments = c.args.segments.now in
    let order = c.args.order.now in
    let chain = c.args.chain.now in
    let i = c.chain.vertex-index in
    let v = get_or chain i 0 in
    let k = get_or order v 0 in
    let s = c.index-segments-index.result in
    let inside = c.requires.vertices i 0 c.chain-test.true in
    let within = c.requires.indices v 0 inside in
    let got : slice_get segments k ≡ Some s = slice_get-get_or segments k s within ∙ ap Some (sym c.index-segments-index.is) in
    rw (take_more chain i 0 c.chain-test.true, c.in_ok-push.ensures.items)
    (all_zipped_more (StandsFor segments order) (take i chain) c.chain.path.items v s c.chain.invariant (k, slice_get-get_or order v 0 inside, got))
