use Rattle.std.proofs.Common.{arith, ap, ◌≡◌, ◌∙◌, ◌+◌, ◌<◌, Bor, length, get_or, Option, None, ℕ, sym}
use Rattle.std.specs.Prelude.{◌&&◌, is_none, is_some}
use Rattle.std.proofs.lemmas.List.Sums.{count_by_more_no, count_by_more_yes}
use Rattle.span_types.specs.declared.span.Span.{Span}
use Rattle.span_requests.specs.Callers.{misses_parent}
use Rattle.span_requests.specs.inner.Ids.{lent_spans}
use Rattle.span_requests.specs.inner.Numbering.{parent_number}
use Rattle.span_requests.proofs.CallerLemmas.{missing_is, number_at}
use Rattle.span_requests.proofs.callers.count_missing.Goals as goal
use Rattle.span_requests.proofs.callers.count_missing.Goals.{then-misses_parent, else-misses_parent}

pub loop-at-preserved : goal.loop-at-preserved
loop-at-preserved c =
    let xs = c.args.spans.now in
    let i = c.loop-at.at in
    let s = c.index-spans-at.result in
    let p = λ (s : Bor Span). misses_parent (lent_spans xs) s.now in
    let lt : i < length xs = omega arith in
    let parent = number_at (parent_number (lent_spans xs)) xs i s c.args.parents.now None lt c.index-spans-at.is c.requires in
    let own : c.misses_parent.result ≡ p (get_or xs i s) =
    c.misses_parent.ensures ∙ ap (λ (o : Option ℕ). is_some s.now.parent && is_none o) parent ∙ sym (missing_is (lent_spans xs) s.now) ∙ ap p c.index-spans-at.is in
    elim c.if-misses_parent.branch [
      | then-misses_parent w ↦ record {
        count = w.count-is ∙ ap (λ n. n + 1) c.loop-at.invariant.count ∙ sym (count_by_more_yes p xs i s lt (sym own ∙ w.if-misses_parent.true));
        few = omega (arith, w.count-is, c.loop-at.invariant.few);
      }
      | else-misses_parent w ↦ record {
        count = w.count-is ∙ c.loop-at.invariant.count ∙ sym (count_by_more_no p xs i s lt (sym own ∙ w.if-misses_parent.false));
        few = omega (arith, w.count-is, c.loop-at.invariant.few);
      }
    ]
