use Rattle.std.proofs.Common.{refl, arith}
use Rattle.model_meet.specs.RelationBits.{HasOrder}
use Rattle.trace_types.specs.Parts.{by_number}
use Rattle.trace_types.specs.Relations.{HappensBefore}
use Rattle.model_meet.proofs.LineLemmas.{below_begun, below_next, exclusions_below_begun, exclusions_below_next}
use Rattle.model_meet.proofs.counts.count_names.Goals as goal

pub loop-name-init : goal.loop-name-init
loop-name-init c =
    let words = c.args.model.now.words in
    record {
      orders = below_begun words (HasOrder words) (HappensBefore by_number);
      exclusions = exclusions_below_begun words c.args.model.now.names;
    }

pub loop-name-preserved : goal.loop-name-preserved
loop-name-preserved c =
    let words = c.args.model.now.words in
    let k = c.loop-name.name in
    let lines = c.count_beside-lines in
    let few = c.names-names.ensures.few in
    let all = c.names-names.ensures.value in
    record {
      orders = below_next words (HasOrder words) (HappensBefore by_number) k c.loop-name.hb lines.result.hb (omega arith) (λ p. p.differ refl) (λ traces p. p.differ refl)
          c.loop-name.invariant.orders lines.ensures.orders;
      exclusions = exclusions_below_next words c.args.model.now.names k c.loop-name.mx lines.result.mx (omega arith) (omega arith) c.loop-name.invariant.exclusions lines.ensures.exclusions;
    }
