use Rattle.std.proofs.Common.{◌≡◌, ◌+◌, ◌<◌, ◌++◌, ◌∷◌, [], true, List, get_or, take, sym, ap, subst, ◌∙◌, arith}
use Rattle.std.proofs.lemmas.List.{get_or_default, take_more, take_all}
use Rattle.hypothesis_index.specs.Refuting.{RefutesTasks}
use Rattle.pipeline_tests.proofs.TaskLemmas.{adds_none, with_none, pair_more, starts, ends_empty, next_pair, ends_pair, pair_fits}
use Rattle.pipeline_tests.specs.declared.groups.TaskStays.{TaskStays}
use Rattle.pipeline_tests.specs.inner.Groups.{IsGroup}
use Rattle.pipeline_tests.specs.inner.Pairs.{IsWithBefore, task_word}
use Rattle.refute_tests.specs.Clearing.{AddsExactly}
use Rattle.word_rows.specs.Rows.{below}
use Rattle.pipeline_tests.proofs.tasks.clear_below.Goals as goal

pub loop-low-init : goal.loop-low-init
loop-low-init c = let h : TaskStays = c.args.high.now in record {
  cleared = adds_none c.args.maker.now (λ r. IsWithBefore [] h.task r × RefutesTasks r c.args.trace.now) (λ r p. with_none h.task r p.0);
  next = λ d l. starts c.below_wider.ensures c.pairs_follow.ensures c.args.maker.now (get_or c.args.before.now 0 d).task h.task (c.requires.less 0 d l) c.requires.no_later;
  done = ends_empty c.below_wider.ensures c.pairs_follow.ensures c.args.maker.now h.task c.requires.no_later;
  fits = λ t. t;
}

pub clear_pair-requires-clause-low : goal.clear_pair-requires-clause-low
clear_pair-requires-clause-low c = subst (IsGroup c.args.trace.now) (sym c.low-item.is) (c.requires.groups c.loop-low.low-index c.low-item.result c.loop-low-test.true)

pub clear_pair-requires-clause-rises : goal.clear_pair-requires-clause-rises
clear_pair-requires-clause-rises c = subst (λ (g : TaskStays). g.task < c.args.high.now.task) (sym c.low-item.is) (c.requires.less c.loop-low.low-index c.low-item.result c.loop-low-test.true)

pub clear_pair-requires-clause-no_later : goal.clear_pair-requires-clause-no_later
clear_pair-requires-clause-no_later c = subst (λ (g : TaskStays). below (task_word g.task c.args.high.now.task + 1) c.loop-low.maker ≡ true) (sym c.low-item.is) (c.loop-low.invariant.next c.low-item.result c.loop-low-test.true)

pub loop-low-preserved : goal.loop-low-preserved
loop-low-preserved c =
    let v = c.loop-low.invariant in
    let e = c.in_ok-clear_pair.ensures in
    let g : TaskStays = c.low-item.result in
    let h : TaskStays = c.args.high.now in
    let k = c.loop-low.low-index in
    let before : List TaskStays = c.args.before.now in
    let new = c.clear_pair.new.maker in
    let same : get_or before k g ≡ g = sym c.low-item.is in
    let front : take (k + 1) before ≡ take k before ++ g ∷ [] = take_more before k g c.loop-low-test.true ∙ ap (λ (x : TaskStays). take k before ++ x ∷ []) same in
    let less : g.task < h.task = subst (λ (x : TaskStays). x.task < h.task) same (c.requires.less k g c.loop-low-test.true) in
    record {
      cleared = subst (λ (l : List TaskStays). AddsExactly c.args.maker.now (λ r. IsWithBefore l h.task r × RefutesTasks r c.args.trace.now) new) (sym front)
          (pair_more (take k before) g h.task c.args.trace.now c.args.maker.now c.loop-low.maker new v.cleared e.cleared);
      next = λ d l. next_pair c.below_wider.ensures c.pairs_follow.ensures new g.task (get_or before (k + 1) d).task h.task
          (subst (λ (x : TaskStays). x.task < (get_or before (k + 1) d).task) (get_or_default before k d g c.loop-low-test.true ∙ same) (c.requires.rise k (k + 1) d (omega arith) l)) e.no_later;
      done = ends_pair c.below_wider.ensures c.pairs_follow.ensures new g.task h.task less e.no_later;
      fits = λ t. pair_fits c.below_wider.ensures c.pairs_follow.ensures new g.task h.task less c.requires.high.small e.no_later;
    }

pub returns-clause-cleared : goal.returns-clause-cleared
returns-clause-cleared c = subst (λ (l : List TaskStays). AddsExactly c.args.maker.now (λ r. IsWithBefore l c.args.high.now.task r × RefutesTasks r c.args.trace.now) c.loop-low.maker)
    (take_all c.loop-low.low-index c.args.before.now (omega arith)) c.loop-low.invariant.cleared
