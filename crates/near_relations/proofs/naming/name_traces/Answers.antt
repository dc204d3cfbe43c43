use Rattle.std.proofs.Common.{List, map, subst}
use Rattle.batch_sheets.specs.Named.{cut_trace}
use Rattle.segment_names.specs.Limits.{PassesLimit}
use Rattle.trace_types.specs.declared.trace.Trace.{Trace}
use Rattle.near_relations.specs.NearRelations.{PassesLimitOf}
use Rattle.near_relations.proofs.NamedLemmas.{cause_of}
use Rattle.near_relations.proofs.naming.name_traces.Goals as goal

pub returns-clause-cause : goal.returns-clause-cause
returns-clause-cause g c =
    let valid : List Trace = map cut_trace c.in_ok-judged.judged.valid.items in
    cause_of c.name_batch.result (PassesLimit c.args.catalogue.now valid) (PassesLimitOf c.args.gathered.now.traces)
    (λ limit p. record {
      valid = valid;
      refused = c.in_ok-judged.judged.refused.items;
      judged = c.in_ok-judged.ensures.judged;
      passes = subst (λ known. PassesLimit known valid limit) c.requires.empty p;
    }) c.name_batch.ensures.cause
