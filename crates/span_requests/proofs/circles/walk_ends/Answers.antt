use Rattle.std.proofs.Common.{arith}
use Rattle.span_requests.proofs.CircleLemmas.{on_walk, tells_circle, tells_end, walk_more, walk_stop}
use Rattle.span_requests.proofs.circles.walk_ends.Goals as goal

pub calls-init : goal.calls-init
calls-init c = on_walk c.args.callers.now c.args.marks.now c.args.start c.args.walk c.requires.within c.requires.fresh

pub calls-preserved : goal.calls-preserved
calls-preserved c =
    walk_more c.args.callers.now c.args.marks.now c.calls.marks c.args.start c.args.walk c.calls.at (omega (arith, c.calls.auto.marks, c.requires.same)) c.requires.same c.requires.positive c.requires.ends c.calls.invariant c.calls-test.true c.requires.callers c.in-Some.caller c.in-Some.is

pub returns-in_default-clause-ends : goal.returns-in_default-clause-ends
returns-in_default-clause-ends c =
    walk_stop c.args.callers.now c.args.marks.now c.calls.marks c.args.start c.args.walk c.calls.at (omega (arith, c.calls.auto.marks, c.requires.same)) c.requires.same c.requires.positive c.requires.ends c.calls.invariant c.calls-test.true c.in_default.is

pub returns-clause-ends : goal.returns-clause-ends
returns-clause-ends c =
    tells_end c.args.callers.now c.args.marks.now c.calls.marks c.args.start c.args.walk c.calls.at (omega (arith, c.calls.auto.marks, c.requires.same)) c.requires.same c.requires.positive c.requires.ends c.calls.invariant c.calls-test.false

pub returns-clause-circle : goal.returns-clause-circle
returns-clause-circle c =
    tells_circle c.args.callers.now c.args.marks.now c.calls.marks c.args.start c.args.walk c.calls.at (omega (arith, c.calls.auto.marks, c.requires.same)) c.requires.same c.requires.positive c.requires.ends c.calls.invariant c.calls-test.false
