use Rattle.segment_names.proofs.BelowLemmas.{named_below}
use Rattle.segment_names.proofs.laws.named_trace_is_below.Goals as goal

pub returns : goal.returns
returns c = λ known named trace is. named_below known named trace (c.numbering_is_one_to_one.ensures.matched known.names) (c.numbering_is_one_to_one-2.ensures.matched known.tasks) is
