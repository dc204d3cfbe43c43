use Rattle.std.proofs.Common.{◌≡◌, ◌∙◌, ◌+◌, List, ℕ, Some, slice_get, ap, arith, sym}
use Rattle.event_table.specs.LentEvents.{event_lent}
use Rattle.event_rewrite.proofs.WalkLemmas.{print_more}
use Rattle.event_rewrite.proofs.printing.print_events.Goals as goal

pub overflow_add-first : goal.overflow_add-first
overflow_add-first c = omega (arith, c.loop-at-test.true, c.len-at-end.ensures, c.requires.within, c.requires.few)

pub loop-at-preserved : goal.loop-at-preserved
loop-at-preserved c =
    let e = event_lent c.event.result in
    let text : c.as_bytes-name.result.now ≡ c.name.result.now = c.as_bytes-name.ensures.value ∙ c.as_str.ensures in
    let named : slice_get c.args.names.now (c.args.first + c.loop-at.at) ≡ Some c.as_bytes-name.result.now = c.name.ensures ∙ ap (λ (t : List ℕ). Some t) (sym text) in
    print_more c.args.bytes.now.items c.loop-at.bytes.items c.push_event.new.bytes.items c.args.names.now c.args.first c.as_bytes-name.result.now c.args.events.now c.loop-at.at e (omega (arith, c.loop-at-test.true, c.len-at-end.ensures)) c.event.ensures named c.loop-at.invariant c.in_ok-push_event.ensures
