use Rattle.std.proofs.Common.{◌≡◌, ◌∙◌, ap, fold, take, arith, rules}
use Rattle.std.specs.Int.{int_max, int_min}
use Rattle.std.proofs.lemmas.List.{take_all, length-map}
use mir.Syntax.{w64}
use mir.Val.{to_z, of_z}
use Rattle.std.specs.Prelude.{FitsSigned}
use Rattle.std.proofs.lemmas.Int.{to_z-of_z}
use Rattle.segment_cut.specs.inner.Keys.{Key, key_at, key_times}
use Rattle.segment_cut.proofs.SpanLemmas.{first_is, first_of, step_is, span_bounds, span_is, difference_is}
use Rattle.segment_cut.proofs.span.span.Goals as goal

pub loop-task-init : goal.loop-task-init
loop-task-init c =
    let fits : FitsSigned w64 (key_at c.args.keys.now 0).1 = search rules in
    let is = to_z-of_z w64 (key_at c.args.keys.now 0).1 fits ∙ first_is c.args.keys.now c.requires.some in
    record { greatest = is; least = is }

pub loop-task-preserved : goal.loop-task-preserved
loop-task-preserved c =
    let keys = c.args.keys.now in
    let at = c.loop-task._task-index in
    let fits : FitsSigned w64 (key_at c.args.keys.now c.loop-task._task-index).1 = search rules in
    let greatest_fits : FitsSigned w64 c.max-greatest.result = search rules in
    let least_fits : FitsSigned w64 c.min-least.result = search rules in
    let time = to_z-of_z w64 (key_at keys at).1 fits in
    record {
      greatest = step_is int_max keys at (to_z w64 c.loop-task.greatest-bits) (to_z w64 (of_z w64 (key_at keys at).1)) _ c.loop-task-test.true c.loop-task.invariant.greatest time (to_z-of_z w64 c.max-greatest.result greatest_fits ∙ c.max-greatest.ensures.value);
      least = step_is int_min keys at (to_z w64 c.loop-task.least-bits) (to_z w64 (of_z w64 (key_at keys at).1)) _ c.loop-task-test.true c.loop-task.invariant.least time (to_z-of_z w64 c.min-least.result least_fits ∙ c.min-least.ensures.value);
    }

pub returns : goal.returns
returns c =
    let times = key_times c.args.keys.now in
    let many = length-map c.args.keys.now (λ (k : Key). k.1) in
    let whole : take c.loop-task._task-index (key_times c.args.keys.now) ≡ key_times c.args.keys.now = take_all c.loop-task._task-index (key_times c.args.keys.now) (omega arith) in
    let g : to_z w64 c.loop-task.greatest-bits ≡ fold int_max (first_of times) times = c.loop-task.invariant.greatest ∙ ap (fold int_max (first_of times)) whole in
    let l : to_z w64 c.loop-task.least-bits ≡ fold int_min (first_of times) times = c.loop-task.invariant.least ∙ ap (fold int_min (first_of times)) whole in
    let b = span_bounds times (to_z w64 c.loop-task.greatest-bits) (to_z w64 c.loop-task.least-bits) (omega arith) c.requires.in_range g l in
    span_is times (to_z w64 c.loop-task.greatest-bits) (to_z w64 c.loop-task.least-bits) c.abs_diff.result (omega arith) g l (difference_is (to_z w64 c.loop-task.greatest-bits) (to_z w64 c.loop-task.least-bits) c.abs_diff.result b.2 (let h = c.abs_diff.ensures in search rules))
