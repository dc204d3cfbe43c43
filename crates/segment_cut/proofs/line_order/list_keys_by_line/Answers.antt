use Rattle.std.proofs.Common.{◌≡◌, ◌<◌, length, arith}
use Rattle.segment_cut.specs.inner.Keys.{key_times}
use Rattle.segment_cut.proofs.KeyLemmas.{made_at}
use Rattle.segment_cut.proofs.LineOrderLemmas.{rising_push, rising_all}
use Rattle.segment_cut.proofs.line_order.list_keys_by_line.Goals as goal

pub events-preserved : goal.events-preserved
events-preserved c =
    let lt : c.events.at < length c.args.tasks.now = omega arith in
    let each : length c.args.made.now ≡ length c.args.tasks.now = c.requires.made.each in
    let after = c.is_after_last.ensures c.if-not-is_after_last.false in
    let e = c.deref.ensures.value in
    record {
      rising = rw c.in_ok-push.ensures.items (rising_push c.args.tasks.now (key_times c.args.made.now) c.events.keys.items c.events.at _ c.events.invariant.rising lt (made_at c.args.tasks.now c.args.made.now c.events.at c.requires.made (omega arith)) (rw e at after));
      few = omega (arith, c.in_ok-push.ensures.len);
      nexts = c.events.invariant.nexts;
    }

pub returns : goal.returns
returns c = rising_all c.args.tasks.now (key_times c.args.made.now) c.events.keys.items c.events.invariant.rising (omega (arith, c.events.keys.ok.0, c.events.invariant.few))
