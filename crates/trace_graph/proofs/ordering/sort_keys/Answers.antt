use Rattle.std.proofs.Common.{◌≡◌, length, slice_get, Some, arith, refl, rules}
use Rattle.std.proofs.lemmas.Option.{slice_get_read}
use Rattle.trace_graph.proofs.KeyLemmas.{keys_done, made_push}
use Rattle.trace_graph.proofs.ordering.sort_keys.Goals as goal

pub loop-at-preserved : goal.loop-at-preserved
loop-at-preserved c =
    let got : slice_get c.args.segments.now c.loop-at.at ≡ Some c.index-segments-at.result = slice_get_read c.args.segments.now (length c.args.segments.now) c.loop-at.at c.index-segments-at.result refl (omega arith) c.index-segments-at.is in
    rw c.in_ok-push.ensures.items (made_push c.args.segments.now c.loop-at.at c.loop-at.keys.items _ c.loop-at.invariant ((c.index-segments-at.result, got, search rules, search rules), refl))

pub returns : goal.returns
returns c = keys_done c.args.segments.now c.loop-at.at c.loop-at.keys.items c.sort_unstable.new.self.items c.loop-at.invariant (omega arith) c.sort_unstable.ensures.permutation c.sort_unstable.ensures.sorted
