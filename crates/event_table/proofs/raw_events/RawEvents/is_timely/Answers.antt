use Rattle.std.proofs.Common.{ℕ, ◌≤◌, subst, sym, refl, true≢false, arith}
use Rattle.trace_types.specs.Times.{latest_time}
use Rattle.event_table.proofs.LimitLemmas.{late_one, time_there}
use Rattle.event_table.proofs.raw_events.RawEvents.is_timely.Goals as goal

pub returns-then-time-gt-LATEST_TIME : goal.returns-then-time-gt-LATEST_TIME
returns-then-time-gt-LATEST_TIME c = (λ no. absurd (true≢false (sym no)), λ timely. absurd (late_one c.args.self.now.trace.events c.loop-at.at (omega arith) (omega arith) timely))

pub returns : goal.returns
returns c = (λ yes k d within. subst (λ (t : ℕ). t ≤ latest_time) (time_there c.args.self.now.trace.events k d within) (c.loop-at.invariant k (omega (arith, within))), λ timely. refl)
