use Rattle.std.proofs.Common.{arith}
use Rattle.trace_rules.specs.Pipes.{IsPipeline}
use Rattle.model_meet.specs.RelationBits.{HasPipe}
use Rattle.trace_types.specs.Parts.{by_number}
use Rattle.model_meet.proofs.LineLemmas.{beside_begun, beside_next}
use Rattle.model_meet.proofs.counts.count_pipes_beside.Goals as goal

pub loop-other-init : goal.loop-other-init
loop-other-init c =
    let words = c.args.model.now.words in
    beside_begun words (HasPipe words) (IsPipeline by_number) c.args.task

pub loop-other-preserved : goal.loop-other-preserved
loop-other-preserved c =
    let words = c.args.model.now.words in
    let to = c.lists_pipe-to in
    let from = c.lists_pipe-from in
    beside_next words (HasPipe words) (IsPipeline by_number) c.args.task c.loop-other.other c.loop-other.pipes _ c.loop-other-test.true to.result from.result (omega (arith, c.from.ensures, c.from-in-loop-other.ensures))
    to.ensures.bits from.ensures.bits to.ensures.told from.ensures.told c.loop-other.invariant
