use Rattle.std.proofs.Common.{arith, ap, ◌≡◌, ◌∙◌, ◌<◌, length, Option, None, ℕ, sym}
use Rattle.std.specs.Prelude.{if◌then◌else◌}
use Rattle.span_requests.specs.Callers.{is_consumer}
use Rattle.span_requests.specs.inner.Ids.{lent_spans}
use Rattle.span_requests.specs.inner.Numbering.{caller_number, parent_number}
use Rattle.span_requests.proofs.CallerLemmas.{caller_is, found_all, found_more, number_at}
use Rattle.span_requests.proofs.callers.find_callers.Goals as goal

pub loop-at-preserved : goal.loop-at-preserved
loop-at-preserved c =
    let xs = c.args.spans.now in
    let s = c.index-spans-at.result in
    let lt : c.loop-at.at < length xs = omega arith in
    let parent = number_at (parent_number (lent_spans xs)) xs c.loop-at.at s c.args.parents.now None lt c.index-spans-at.is c.requires in
    let own : c.caller_by.result ≡ caller_number (lent_spans xs) s.now = c.caller_by.ensures ∙ ap (λ (o : Option ℕ). if is_consumer s.now.kind then None else o) parent ∙ sym (caller_is (lent_spans xs) s.now) in
    found_more (caller_number (lent_spans xs)) xs c.loop-at.at s c.caller_by.result c.loop-at.callers.items c.push.new.self.items lt c.index-spans-at.is c.loop-at.invariant own c.in_ok-push.ensures.items

pub returns : goal.returns
returns c = found_all (caller_number (lent_spans c.args.spans.now)) c.args.spans.now c.loop-at.at c.loop-at.callers.items (omega arith) (omega arith) c.loop-at.invariant
