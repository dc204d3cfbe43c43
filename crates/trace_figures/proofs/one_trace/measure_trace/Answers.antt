use Rattle.std.proofs.Common.{Ok, arith, subst}
use Rattle.std.specs.declared.alloc.AllocError.{AllocError}
use Rattle.std.proofs.lemmas.List.{get_or_default}
use Rattle.trace_paths.proofs.UnderLemmas.{path_under}
use Rattle.weighted_dag.specs.Slacks.{IsSlack}
use Rattle.trace_figures.proofs.one_trace.measure_trace.Goals as goal

pub returns-clause-path : goal.returns-clause-path
returns-clause-path c =
    path_under {E = AllocError} c.args.exclusions.now c.args.trace.now c.in_ok-graph.graph.order c.in_ok-graph.graph.dag c.requires c.in_ok-graph.ensures.graph (Ok c.in_ok-path.path) c.in_ok-path.ensures.path c.in_ok-path.ensures.named

pub returns-clause-figures : goal.returns-clause-figures
returns-clause-figures c =
    let dag = c.in_ok-graph.graph.dag in
    let slacks = c.in_ok-slacks.slacks.items in
    let count = c.in_ok-slacks.ensures.entries in
    record {
      graph = dag;
      form = c.in_ok-graph.ensures.graph.has.form;
      dependencies = c.in_ok-graph.ensures.graph;
      slack_count = count;
      slacks = λ v d lt. subst (IsSlack dag v) (get_or_default slacks v 0 d (omega (arith, count, lt))) (c.in_ok-slacks.ensures.slack v lt);
      gain_count = c.in_ok-gains.ensures.entries;
      gains = c.in_ok-gains.ensures.gains;
    }
