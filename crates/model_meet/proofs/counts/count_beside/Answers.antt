use Rattle.std.proofs.Common.{arith}
use Rattle.model_meet.specs.RelationBits.{HasOrder}
use Rattle.trace_types.specs.Parts.{by_number}
use Rattle.trace_types.specs.Relations.{HappensBefore}
use Rattle.model_meet.proofs.LineLemmas.{beside_begun, beside_next, exclusions_begun, exclusions_next}
use Rattle.model_meet.proofs.counts.count_beside.Goals as goal

pub loop-other-init : goal.loop-other-init
loop-other-init c =
    let words = c.args.model.now.words in
    record {
      orders = beside_begun words (HasOrder words) (HappensBefore by_number) c.args.name;
      exclusions = exclusions_begun words c.args.model.now.names c.args.name;
    }

pub loop-other-preserved : goal.loop-other-preserved
loop-other-preserved c =
    let words = c.args.model.now.words in
    let k = c.loop-other.other in
    let lines = c.lines_between-lines.result in
    let told = c.lines_between-lines.ensures in
    let less = c.loop-other-test.true in
    let law = c.relations_are_symmetric.ensures in
    record {
      orders = beside_next words (HasOrder words) (HappensBefore by_number) c.args.name k c.loop-other.hb _ less lines.before lines.after (omega (arith, c.from.ensures, c.from-in-loop-other.ensures))
          told.before told.after told.before_told told.after_told c.loop-other.invariant.orders;
      exclusions = exclusions_next words c.args.model.now.names (record { exclusive = law.exclusive by_number; apart = law.apart by_number }) c.args.name k c.loop-other.mx _ less c.requires.here lines.exclusive
          (omega (arith, c.from-mx.ensures)) told.exclusive told.exclusive_told c.loop-other.invariant.exclusions;
    }
