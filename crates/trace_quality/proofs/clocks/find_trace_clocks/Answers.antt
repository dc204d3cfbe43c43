use Rattle.std.proofs.Common.{sym, ◌∙◌}
use Rattle.trace_quality.proofs.ClockLemmas.{once_of}
use Rattle.trace_quality.proofs.clocks.find_trace_clocks.Goals as goal

pub find_clocks-requires-clause-once : goal.find_clocks-requires-clause-once
find_clocks-requires-clause-once c =
    once_of c.args.raw.now.trace c.args.verdict.fault c.args.verdict.segments c.args.verdict.waits c.requires.judged (sym c.has_offsets.ensures ∙ c.if-has_offsets.true)
