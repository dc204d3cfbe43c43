use Rattle.std.proofs.Common.{◌<◌, Option, ℕ, length, subst}
use Rattle.std.specs.Prelude.{IfSome}
use Rattle.span_lines.proofs.CallLemmas.{end_at}
use Rattle.span_lines.proofs.FarLemmas.{later_is, later_no, later_yes}
use Rattle.span_lines.proofs.messages.later_of.Goals as goal

pub returns-then-calls-last-clause-later : goal.returns-then-calls-last-clause-later
returns-then-calls-last-clause-later c =
    let calls = c.args.calls.now in
    let low = subst (λ (o : Option ℕ). IfSome o (λ l. l < length calls)) c.in-Some.is c.requires.last in
    later_is calls c.args.last c.in-Some.last c.args.call c.args.call c.in-Some.is
    (later_yes calls c.in-Some.last c.args.call _ _ (end_at calls c.in-Some.last c.index-calls-last.result low) (end_at calls c.args.call c.index-calls-call.result c.requires.call) c.if-calls-last.true)

pub returns-else-calls-last-clause-later : goal.returns-else-calls-last-clause-later
returns-else-calls-last-clause-later c =
    let calls = c.args.calls.now in
    let low = subst (λ (o : Option ℕ). IfSome o (λ l. l < length calls)) c.in-Some.is c.requires.last in
    later_is calls c.args.last c.in-Some.last c.args.call c.in-Some.last c.in-Some.is
    (later_no calls c.in-Some.last c.args.call _ _ (end_at calls c.in-Some.last c.index-calls-last.result low) (end_at calls c.args.call c.index-calls-call.result c.requires.call) c.if-calls-last.false)
