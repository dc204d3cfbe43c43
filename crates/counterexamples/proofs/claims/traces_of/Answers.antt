use Rattle.std.proofs.Common.{arith, sym, ◌∙◌}
use Rattle.counterexamples.proofs.ShownLemmas.{traces_here, traces_later}
use Rattle.counterexamples.proofs.claims.traces_of.Goals as goal

pub returns-then-day : goal.returns-then-day
returns-then-day c = sym (traces_here c.args.book.now.days c.days.place c.args.day c.day.result c.traces.result.now c.day.ensures (omega (arith, c.if-day.true)) c.traces.ensures) ∙ c.days.invariant

pub days-preserved : goal.days-preserved
days-preserved c = sym (traces_later c.args.book.now.days c.days.place c.args.day c.day.result c.day.ensures (λ e. omega (arith, c.if-day.false, e))) ∙ c.days.invariant
