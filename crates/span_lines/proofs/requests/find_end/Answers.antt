use Rattle.std.proofs.Common.{◌∙◌, ap, length, arith}
use Rattle.std.specs.Prelude.{is_none, not}
use Rattle.context_forks.specs.Forks.{callers_of}
use Rattle.span_lines.proofs.CallLemmas.{caller_at}
use Rattle.span_lines.proofs.RequestLemmas.{end_is, none_more}
use Rattle.span_lines.proofs.requests.find_end.Goals as goal

pub returns-then-is_none-clause-end : goal.returns-then-is_none-clause-end
returns-then-is_none-clause-end c =
    end_is c.args.calls.now c.args.call c.loop-at.at (omega (arith, c.loop-at.auto.at)) (omega (arith, c.loop-at-test.true)) c.loop-at.invariant
    (λ lt. ap is_none (caller_at c.args.calls.now c.loop-at.at c.index-calls-at.result c.loop-at-test.true) ∙ ap not c.if-is_none.ensures)

pub loop-at-preserved : goal.loop-at-preserved
loop-at-preserved c = none_more (callers_of c.args.calls.now) c.args.call c.loop-at.at c.loop-at.invariant
    (ap is_none (caller_at c.args.calls.now c.loop-at.at c.index-calls-at.result c.loop-at-test.true) ∙ ap not c.if-is_none.ensures)

pub returns-clause-end : goal.returns-clause-end
returns-clause-end c = end_is c.args.calls.now c.args.call (length c.args.calls.now) c.requires (omega arith) (λ k low lt. c.loop-at.invariant k low (omega (arith, lt, c.loop-at-test.false))) (λ lt. absurd (omega (arith, lt)))
