use Rattle.std.proofs.Common.{◌≡◌, ◌<◌, List, ℕ, length, get_or, take, ap, ◌∙◌, subst, sym, true, arith}
use Rattle.std.proofs.lemmas.List.{length-set}
use Rattle.clock_offsets.specs.declared.machine_clock.Clock.TheVariants.{Unreachable}
use Rattle.machine_quality.specs.declared.numbered_clock.NumberedClock.{NumberedClock}
use Rattle.machine_quality.specs.inner.Numbered.{numbers_of}
use Rattle.machine_quality.proofs.SightLemmas.{AreFirstTo, first_more, numbers_more}
use Rattle.machine_quality.proofs.listing.push_first.Goals as goal

pub loop-clock-preserved : goal.loop-clock-preserved
loop-clock-preserved c =
    let d : NumberedClock = record { machine = 0; clock = Unreachable } in
    let i = c.loop-clock.clock-index in
    let m : ℕ = (get_or c.args.told.now i d).machine in
    let size : length c.loop-clock.is_seen ≡ length c.args.is_seen.now = c.loop-clock.invariant.size in
    let within : m < length c.args.is_seen.now = c.requires.within i d c.loop-clock-test.true in
    let low : m < length c.loop-clock.is_seen = omega (arith, within, size) in
    record {
      first = subst (λ (ns : List ℕ). AreFirstTo ns c.push_new.new.machines.items c.push_new.new.is_seen) (sym (numbers_more c.args.told.now i d c.loop-clock-test.true))
          (first_more (numbers_of (take i c.args.told.now)) c.loop-clock.machines.items c.push_new.new.machines.items c.loop-clock.is_seen c.push_new.new.is_seen m c.loop-clock.invariant.first low c.in_ok-push_new.ensures.first c.in_ok-push_new.ensures.seen);
      size = ap length c.in_ok-push_new.ensures.seen ∙ length-set c.loop-clock.is_seen m true ∙ size;
    }
