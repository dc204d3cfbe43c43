use Rattle.std.proofs.Common.{◌≡◌, ◌∙◌, ◌++◌, [], ap, get_or, sym}
use Rattle.std.specs.Prelude.{codes}
use Rattle.std.proofs.lemmas.Result.{on_ok_weaker}
use Rattle.event_text.specs.LineTexts.{event_text}
use Rattle.span_lines.specs.Lines.{line_at}
use Rattle.span_lines.specs.Mappings.{head_label}
use Rattle.span_lines.specs.Messages.{call_span, caller_of_call}
use Rattle.span_lines.specs.Moments.{seen_moment}
use Rattle.span_lines.specs.inner.LentMappings.{mapping_lent}
use Rattle.span_lines.specs.inner.SeenMoments.{moment_seen}
use Rattle.span_lines.proofs.CallLemmas.{start_at, span_at}
use Rattle.span_lines.proofs.lines.push_fork.Goals as goal

pub returns : goal.returns
returns c =
    let m = c.args.mapping.now in
    let calls = m.calls.now in
    let i = c.args.call in
    let one = c.index-mapping-call.result in
    let lt = c.requires.within in
    let name : c.in_ok-event.event ≡ head_label (mapping_lent m) i ++ codes " forks" = c.in_ok-event.ensures ∙ ap (λ x. get_or m.events.now x [] ++ codes " forks") c.head.ensures.head in
    let moment : moment_seen c.seen_moment-moment.result ≡ seen_moment calls (caller_of_call calls i) i _ (call_span calls i).start = c.seen_moment-moment.ensures ∙
    (λ k. seen_moment calls (caller_of_call calls i) i (sym (start_at calls i one lt) k) (sym (span_at calls i one lt) k).start) in
    on_ok_weaker c.push_seen.result (λ h. h ∙ (λ k. c.args.text.now.items ++ event_text (line_at m.machines.now c.args.request.now c.args.task.now (name k) (moment k)))) c.push_seen.ensures
