use Rattle.std.proofs.Common.{◌∙◌, ◌<◌, Option, ℕ, ap, length, subst, sym}
use Rattle.std.specs.Prelude.{IfSome}
use Rattle.span_types.specs.declared.span.Span.{Span}
use Rattle.span_requests.specs.SpansOnce.{lent_spans}
use Rattle.span_calls.specs.Calls.{moments_by}
use Rattle.span_calls.specs.Seen.{caller_in}
use Rattle.span_calls.proofs.SeenLemmas.{caller_is}
use Rattle.span_calls.proofs.seeing.see.Goals as goal

pub returns-in-Some : goal.returns-in-Some
returns-in-Some c =
    let xs = c.args.spans.now in
    let within = subst (λ (o : Option ℕ). IfSome o (λ k. k < length xs)) c.in-Some.is c.requires in
    c.see_call.ensures ∙ ap (λ (o : Option Span). moments_by o c.args.span.now)
    (sym (ap (caller_in (lent_spans xs)) c.in-Some.is ∙ caller_is xs c.in-Some.caller c.index-spans-caller.result within c.index-spans-caller.is))
