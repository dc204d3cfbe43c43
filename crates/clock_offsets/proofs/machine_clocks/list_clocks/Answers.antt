use Rattle.std.proofs.Common.{◌<◌, ◌+◌, List, length, sym, subst, refl, arith}
use Rattle.clock_offsets.specs.declared.machine_clock.MachineClock.{MachineClock}
use Rattle.clock_offsets.proofs.ClockLemmas.{AreClocksTo, clocks_skip, clocks_push}
use Rattle.clock_offsets.proofs.machine_clocks.list_clocks.Goals as goal

pub loop-at-preserved-then-numbers-at : goal.loop-at-preserved-then-numbers-at
loop-at-preserved-then-numbers-at c =
    let lt : c.loop-at.at < length c.args.trace.now.trace.events = omega (arith, c.loop-at-test.true, c.len-at-end.ensures.events) in
    clocks_skip c.args.trace.now.trace.events c.args.numbers.now c.loop-at.at c.loop-at.clocks.items c.requires.numbered lt c.if-numbers-at.true c.loop-at.invariant

pub loop-at-preserved : goal.loop-at-preserved
loop-at-preserved c =
    let lt : c.loop-at.at < length c.args.trace.now.trace.events = omega (arith, c.loop-at-test.true, c.len-at-end.ensures.events) in
    let some : 0 < c.loop-at.at = omega (arith, c.loop-at.auto.at) in
    let x : MachineClock = record { first = c.loop-at.at; clock = c.clock_of-clock.result } in
    subst (λ (clocks : List MachineClock). AreClocksTo c.args.trace.now.trace.events (c.loop-at.at + 1) clocks) (sym c.in_ok-push.ensures.items)
    (clocks_push c.args.trace.now.trace.events c.args.numbers.now c.loop-at.at c.loop-at.clocks.items x c.requires.numbered lt some c.if-numbers-at.false refl c.clock_of-clock.ensures c.loop-at.invariant)
