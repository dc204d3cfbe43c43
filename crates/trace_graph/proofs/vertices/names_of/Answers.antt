use Rattle.std.proofs.Common.{◌≡◌, length, slice_get, Some, unwrap_or, arith, refl, ap}
use Rattle.std.specs.Option.{option_map}
use Rattle.std.proofs.lemmas.List.{take_more, map_push}
use Rattle.std.proofs.lemmas.Option.{slice_get_read}
use Rattle.std.proofs.lemmas.Grind.{common_steps}
use Rattle.trace_types.specs.NamedSegments.{number_of_name}
use Rattle.trace_graph.specs.inner.Keys.{key_at, name_in}
use Rattle.trace_graph.proofs.KeyLemmas.{key_within}
use Rattle.trace_graph.proofs.vertices.names_of.Goals as goal

pub bounds-segments-key : goal.bounds-segments-key
bounds-segments-key c = key_within c.args.segments.now (key_at c.args.keys.now c.loop-key.key-index) (c.requires.right c.loop-key.key-index (omega arith))

pub bounds-segments-key-in-loop-key : goal.bounds-segments-key-in-loop-key
bounds-segments-key-in-loop-key c _ = key_within c.args.segments.now (key_at c.args.keys.now c.loop-key.key-index) (c.requires.right c.loop-key.key-index (omega arith))

pub loop-key-preserved : goal.loop-key-preserved
loop-key-preserved c =
    let got : slice_get c.args.segments.now (key_at c.args.keys.now c.loop-key.key-index).2 ≡ Some c.index-segments-key.result = slice_get_read c.args.segments.now (length c.args.segments.now) _ c.index-segments-key.result refl (key_within c.args.segments.now (key_at c.args.keys.now c.loop-key.key-index) (c.requires.right c.loop-key.key-index (omega arith))) c.index-segments-key.is in
    let name : name_in c.args.segments.now (key_at c.args.keys.now c.loop-key.key-index) ≡ c.index-segments-key.result.name = ap (λ o. unwrap_or (option_map number_of_name o) 0) got in
    grind (arith, common_steps, take_more, map_push, c.in_ok-push.ensures.items, c.loop-key.invariant, name)
