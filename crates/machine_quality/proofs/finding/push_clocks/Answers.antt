use Rattle.std.proofs.Common.{get_or, refl}
use Rattle.clock_offsets.specs.declared.machine_clock.Clock.TheVariants.{Unreachable}
use Rattle.clock_offsets.specs.declared.machine_clock.MachineClock.{MachineClock}
use Rattle.machine_quality.proofs.TellingLemmas.{clock_below, clock_more}
use Rattle.machine_quality.proofs.finding.push_clocks.Goals as goal

pub loop-clock-preserved : goal.loop-clock-preserved
loop-clock-preserved c =
    let machines = c.args.raw.now.texts.machines in
    let events = c.args.raw.now.trace.events in
    let told = c.loop-clock.told.items in
    let new = c.push.new.self.items in
    let d : MachineClock = record { first = 0; clock = Unreachable } in
    let clock : MachineClock = get_or c.args.clocks.now c.loop-clock.clock-index d in
    record {
      joined = clock_more machines events told new clock c.machine.result c.machine.ensures c.in_ok-push.ensures.items c.args.told.now.items c.args.clocks.now c.loop-clock.clock-index d c.loop-clock-test.true refl c.loop-clock.invariant.joined;
      below = clock_below machines events told new clock c.machine.result c.machine.ensures c.in_ok-push.ensures.items c.loop-clock.invariant.below;
    }
