use Rattle.std.proofs.Common.{◌≡◌, ◌∙◌, ◌+◌, ◌++◌, ◌∷◌, [], length, ap, arith}
use Rattle.std.proofs.lemmas.List.{length_push, map-append}
use Rattle.event_table.specs.LentEvents.{event_lent}
use Rattle.event_rewrite.specs.TaskLines.{task_event}
use Rattle.task_pieces.specs.TaskKeys.{event_of_key, events_of_keys}
use Rattle.event_rewrite.proofs.WalkLemmas.{push_more}
use Rattle.event_rewrite.proofs.keys.push_keys.Goals as goal

pub loop-at-preserved : goal.loop-at-preserved
loop-at-preserved c =
    let at = c.loop-at.invariant in
    let n = length c.args.keys.now.items in
    let e = event_lent c.event.result in
    let index : c.len-index.result ≡ n + c.loop-at.at = omega (arith, c.len-index.ensures, c.loop-at.keys.ok.0, at.count) in
    let key : event_of_key c.key_of.result ≡ task_event c.args.batch (n + c.loop-at.at) e = c.key_of.ensures ∙ ap (λ i. task_event c.args.batch i e) index in
    let new : events_of_keys c.push.new.self.items ≡ events_of_keys c.loop-at.keys.items ++ task_event c.args.batch (n + c.loop-at.at) e ∷ [] =
    ap events_of_keys c.in_ok-push.ensures.items ∙ map-append event_of_key c.loop-at.keys.items (c.key_of.result ∷ []) ∙ ap (λ k. events_of_keys c.loop-at.keys.items ++ k ∷ []) key in
    record {
      keys = new ∙ push_more (events_of_keys c.args.keys.now.items) (events_of_keys c.loop-at.keys.items) c.args.batch n c.args.events.now c.loop-at.at e (omega (arith, c.loop-at-test.true, c.len-at-end.ensures)) c.event.ensures at.keys;
      count = omega (arith, ap length c.in_ok-push.ensures.items, length_push c.loop-at.keys.items c.key_of.result, at.count);
    }
