use Rattle.std.proofs.Common.{◌-◌, arith}
use Rattle.event_lines.proofs.RiseLemmas.{falls, rises_more}
use Rattle.event_lines.proofs.rising.lines_rise.Goals as goal

pub returns-then-events-index : goal.returns-then-events-index
returns-then-events-index c = (
  λ no. absurd (cc no),
  λ rising. absurd (falls c.args.events.now (c.loop-index.index - 1) c.loop-index.index c.index-events-index-in-loop-index.result c.index-events-index.result
      (omega arith) (omega arith) c.if-events-index.true rising),
)

pub loop-index-preserved : goal.loop-index-preserved
loop-index-preserved c =
    rises_more c.args.events.now (c.loop-index.index - 1) c.loop-index.index c.index-events-index-in-loop-index.result c.index-events-index.result
    (omega arith) (omega arith) c.if-events-index.false c.loop-index.invariant
