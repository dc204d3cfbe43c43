use Rattle.std.proofs.Common.{◌≡◌, ◌+◌, ◌<◌, ◌++◌, ◌∷◌, [], true, List, All, get_or, take, sym, ap, subst, ◌∙◌, arith}
use Rattle.std.proofs.lemmas.List.{get_or_default, take_more, take_all}
use Rattle.std.proofs.lemmas.List.Elements.{All-take}
use Rattle.hypothesis_index.specs.Refuting.{RefutesTasks}
use Rattle.pipeline_tests.proofs.TaskLemmas.{adds_none, among_none, task_more, first_task, next_task, less_take, rise_take}
use Rattle.pipeline_tests.specs.declared.groups.TaskStays.{TaskStays}
use Rattle.pipeline_tests.specs.inner.Groups.{IsGroup, TasksRise}
use Rattle.pipeline_tests.specs.inner.Pairs.{IsAmong, IsWithBefore, task_start}
use Rattle.refute_tests.specs.Clearing.{AddsExactly}
use Rattle.word_rows.specs.Rows.{below}
use Rattle.pipeline_tests.proofs.tasks.clear_groups.Goals as goal

pub loop-index-init : goal.loop-index-init
loop-index-init c = record {
  cleared = adds_none c.args.maker.now (λ r. IsAmong [] r × RefutesTasks r c.args.trace.now) (λ r p. among_none r p.0);
  next = λ d l. first_task c.below_wider.ensures c.pairs_follow.ensures c.args.maker.now (get_or c.args.groups.now 0 d).task c.requires.blank;
  fits = c.below_wider.ensures 1 126 c.args.maker.now (omega arith) c.requires.blank;
}

pub clear_below-requires-clause-groups : goal.clear_below-requires-clause-groups
clear_below-requires-clause-groups c = subst (λ (l : List TaskStays). All (IsGroup c.args.trace.now) l) (sym c.split_at.ensures.front) (All-take (IsGroup c.args.trace.now) c.loop-index.index c.args.groups.now c.requires.groups)

pub clear_below-requires-clause-high : goal.clear_below-requires-clause-high
clear_below-requires-clause-high c = subst (IsGroup c.args.trace.now) (sym c.index-groups-index.is) (c.requires.groups c.loop-index.index c.index-groups-index.result c.loop-index-test.true)

pub clear_below-requires-clause-rise : goal.clear_below-requires-clause-rise
clear_below-requires-clause-rise c = subst TasksRise (sym c.split_at.ensures.front) (rise_take c.loop-index.index c.args.groups.now c.requires.rise (omega arith))

pub clear_below-requires-clause-less : goal.clear_below-requires-clause-less
clear_below-requires-clause-less c = let g : TaskStays = c.index-groups-index.result in
    subst (λ (l : List TaskStays). All (λ (x : TaskStays). x.task < g.task) l) (sym c.split_at.ensures.front) (less_take c.loop-index.index c.args.groups.now g c.requires.rise c.loop-index-test.true c.index-groups-index.is)

pub clear_below-requires-clause-no_later : goal.clear_below-requires-clause-no_later
clear_below-requires-clause-no_later c = subst (λ (x : TaskStays). below (task_start x.task + 1) c.loop-index.maker ≡ true) (sym c.index-groups-index.is) (c.loop-index.invariant.next c.index-groups-index.result c.loop-index-test.true)

pub loop-index-preserved : goal.loop-index-preserved
loop-index-preserved c =
    let v = c.loop-index.invariant in
    let e = c.in_ok-clear_below.ensures in
    let g : TaskStays = c.index-groups-index.result in
    let k = c.loop-index.index in
    let groups : List TaskStays = c.args.groups.now in
    let new = c.clear_below.new.maker in
    let same : get_or groups k g ≡ g = sym c.index-groups-index.is in
    let front : take (k + 1) groups ≡ take k groups ++ g ∷ [] = take_more groups k g c.loop-index-test.true ∙ ap (λ (x : TaskStays). take k groups ++ x ∷ []) same in
    record {
      cleared = subst (λ (l : List TaskStays). AddsExactly c.args.maker.now (λ r. IsAmong l r × RefutesTasks r c.args.trace.now) new) (sym front)
          (task_more (take k groups) g (less_take k groups g c.requires.rise c.loop-index-test.true c.index-groups-index.is) c.args.trace.now c.args.maker.now c.loop-index.maker new v.cleared
          (subst (λ (l : List TaskStays). AddsExactly c.loop-index.maker (λ r. IsWithBefore l g.task r × RefutesTasks r c.args.trace.now) new) c.split_at.ensures.front e.cleared));
      next = λ d l. next_task c.below_wider.ensures c.pairs_follow.ensures new g.task (get_or groups (k + 1) d).task
          (subst (λ (x : TaskStays). x.task < (get_or groups (k + 1) d).task) (get_or_default groups k d g c.loop-index-test.true ∙ same) (c.requires.rise k (k + 1) d (omega arith) l)) e.no_later;
      fits = e.fits v.fits;
    }

pub returns-clause-cleared : goal.returns-clause-cleared
returns-clause-cleared c = subst (λ (l : List TaskStays). AddsExactly c.args.maker.now (λ r. IsAmong l r × RefutesTasks r c.args.trace.now) c.loop-index.maker)
    (take_all c.loop-index.index c.args.groups.now (omega arith)) c.loop-index.invariant.cleared
