use Rattle.std.proofs.Common.{◌∙◌, ◌+◌, ◌<◌, ◌++◌, ap, arith, length, take}
use Rattle.event_lines.specs.LineParts.{lines_of_events, lines_of_runs}
use Rattle.event_rewrite.specs.TaskLines.{task_events_from}
use Rattle.event_rewrite.proofs.WalkLemmas.{batch_next, count_within, few_keys, keys_next, runs_within}
use Rattle.event_rewrite.proofs.keys.keys_of.Goals as goal

pub push_keys-requires : goal.push_keys-requires
push_keys-requires c =
    let runs = c.args.runs.now in
    let few : length c.loop-run.keys.items + length c.run-item.result.events < 4294967295 =
    omega (arith, few_keys c.loop-run.keys.items (lines_of_runs (take c.loop-run.run-index runs)) c.loop-run.invariant.keys, runs_within runs c.loop-run.run-index c.run-item.result c.loop-run-test.true c.run-item.is, count_within (lines_of_runs runs), c.requires) in
    record { few = few }

pub loop-run-preserved : goal.loop-run-preserved
loop-run-preserved c =
    let runs = c.args.runs.now in
    let at = c.loop-run.invariant in
    let i = c.loop-run.run-index in
    record {
      keys = c.in_ok-push_keys.ensures.keys ∙ ap (λ ts. ts ++ task_events_from c.loop-run.batch (length c.loop-run.keys.items) (lines_of_events c.run-item.result.events)) at.keys
          ∙ keys_next runs i c.run-item.result c.loop-run-test.true c.run-item.is c.loop-run.batch (length c.loop-run.keys.items) at.batch (few_keys c.loop-run.keys.items (lines_of_runs (take i runs)) at.keys);
      batch = c.batch_behind-batch.ensures.batch ∙ batch_next runs i c.run-item.result c.loop-run-test.true c.run-item.is c.loop-run.batch at.batch;
      most = omega (arith, c.batch_behind-batch.ensures.most, at.most);
    }
