use Rattle.std.proofs.Common.{◌<◌, length, arith}
use Rattle.event_table.proofs.RenumberLemmas.{own_more}
use Rattle.event_table.proofs.numbering.count_up.Goals as goal

pub loop-number-preserved : goal.loop-number-preserved
loop-number-preserved c = λ texts count.
    let below = c.loop-number-test.true in
    let lt : c.loop-number.number < length texts = omega (arith, count) in
    own_more texts c.loop-number.number c.loop-number.numbers.items c.push.new.self.items lt (c.loop-number.invariant texts count) c.in_ok-push.ensures.items
