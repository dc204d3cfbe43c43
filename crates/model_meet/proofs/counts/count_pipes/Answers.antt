use Rattle.std.proofs.Common.{refl, arith}
use Rattle.trace_rules.specs.Pipes.{IsPipeline}
use Rattle.model_meet.specs.RelationBits.{HasPipe}
use Rattle.trace_types.specs.Parts.{by_number}
use Rattle.model_meet.proofs.LineLemmas.{below_begun, below_next}
use Rattle.model_meet.proofs.counts.count_pipes.Goals as goal

pub loop-task-init : goal.loop-task-init
loop-task-init c =
    let words = c.args.model.now.words in
    below_begun words (HasPipe words) (IsPipeline by_number)

pub loop-task-preserved : goal.loop-task-preserved
loop-task-preserved c =
    let words = c.args.model.now.words in
    below_next words (HasPipe words) (IsPipeline by_number) c.loop-task.task c.loop-task.pipes c.count_pipes_beside-pipes.result (omega arith) (λ p. p.differ refl) (λ traces p. p.differ refl)
    c.loop-task.invariant c.count_pipes_beside-pipes.ensures
