use Rattle.std.specs.List.{enumerate_from}
use Rattle.trace_types.specs.Parts.{by_number, by_text}
use Rattle.segment_names.proofs.laws.named_trace_refutes_alike.Goals as goal

pub returns : goal.returns
returns c = λ known named trace kept is. c.renamed_trace_refutes_alike.ensures by_number by_text (enumerate_from 0 known.names) (enumerate_from 0 known.tasks) named trace
    (c.numbering_is_one_to_one.ensures.one_to_one known.names kept.names_differ) (c.numbering_is_one_to_one-2.ensures.one_to_one known.tasks kept.tasks_differ) is
