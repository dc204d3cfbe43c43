use Rattle.std.proofs.Common.{◌∙◌, None, ap, arith, get_or, length, sym}
use Rattle.call_trees.proofs.TableLemmas.{table_all, table_more}
use Rattle.span_calls.specs.Calls.{moments_at, moments_by}
use Rattle.span_calls.specs.Seen.{caller_in}
use Rattle.span_calls.specs.inner.CallKeys.{moments_of}
use Rattle.span_requests.specs.SpansOnce.{lent_spans}
use Rattle.span_calls.proofs.PlaceLemmas.{some_within}
use Rattle.span_calls.proofs.SeenLemmas.{span_is}
use Rattle.span_calls.proofs.seeing.see_all.Goals as goal

pub see-requires : goal.see-requires
see-requires c = some_within (get_or c.args.callers.now c.loop-at.at None) (length c.args.spans.now) (λ k e. omega (arith, c.requires.callers c.loop-at.at k e, c.requires.same))

pub loop-at-preserved : goal.loop-at-preserved
loop-at-preserved c =
    let xs = c.args.spans.now in
    let callers = c.args.callers.now in
    let i = c.loop-at.at in
    let s = c.index-spans-at.result in
    table_more (moments_at (lent_spans xs) callers) moments_of c.loop-at.keys.items c.push.new.self.items c.see.result i c.loop-at.invariant
    (c.see.ensures ∙ ap (moments_by (caller_in (lent_spans xs) (get_or callers i None))) (sym (span_is xs i s c.loop-at-test.true c.index-spans-at.is))) c.in_ok-push.ensures.items

pub returns : goal.returns
returns c = table_all (moments_at (lent_spans c.args.spans.now) c.args.callers.now) moments_of c.loop-at.keys.items (length c.args.spans.now) c.loop-at.at (omega arith) (omega arith) c.loop-at.invariant
