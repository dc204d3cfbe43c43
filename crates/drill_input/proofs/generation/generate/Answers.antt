use Rattle.std.proofs.Common.{rules}
use Rattle.drill_input.proofs.DrawLemmas.{state_moves_on}
use Rattle.drill_input.proofs.LengthLemmas.{short_input}
use Rattle.drill_input.proofs.TraceLemmas.{one_trace_more}
use Rattle.drill_input.proofs.generation.generate.Goals as goal

pub loop-index-preserved : goal.loop-index-preserved
loop-index-preserved c = record {
  traces = one_trace_more c.args.number c.loop-index.index _ _ _ _ _ _ _ _ c.loop-index.invariant.traces c.loop-index.invariant.draws c.draw_trace.ensures.d1 c.draw_trace.ensures.d2 c.draw_trace.ensures.d3 c.draw_trace.ensures.d4 c.draw_trace.ensures.d5 c.in_ok-put_trace.ensures;
  draws = state_moves_on c.args.number c.loop-index.index _ _ c.loop-index.invariant.draws c.draw_trace.ensures.state;
}

pub returns-clause-short : goal.returns-clause-short
returns-clause-short c = short_input c.args.number c.args.traces _ c.requires (search rules)
