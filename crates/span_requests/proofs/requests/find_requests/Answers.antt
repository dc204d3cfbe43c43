use Rattle.std.proofs.Common.{◌∙◌, ◌<◌, All, List, Option, ℕ, ap, arith, length, sym, subst}
use Rattle.span_types.specs.declared.span.Span.{Span}
use Rattle.span_requests.specs.Entries.{AreEntries, spans_at}
use Rattle.span_requests.specs.SpansOnce.{have_one_id, lent_spans, spans_once}
use Rattle.span_requests.proofs.CallerLemmas.{lent_size}
use Rattle.span_requests.proofs.EntryLemmas.{firsts_few}
use Rattle.span_requests.specs.CallerNumbers.{AreRoots, HaveLastCallers}
use Rattle.span_requests.proofs.RequestLemmas.{have_last_callers, within_callers}
use Rattle.span_requests.proofs.requests.find_requests.Goals as goal

pub find_entries-requires-clause-few : goal.find_entries-requires-clause-few
find_entries-requires-clause-few c = omega (arith, ap length c.deref-3.ensures.value, lent_size c.take_once.new.spans.items, ap length c.in_ok-numbers.ensures.spans, firsts_few have_one_id c.args.input.now, c.requires.few)

pub returns-clause-requests : goal.returns-clause-requests
returns-clause-requests c =
    let entries = c.in_ok-entries.entries.items in
    let spans = ap lent_spans c.deref-3.ensures.value ∙ c.in_ok-numbers.ensures.spans in
    record {
      spans = c.in_ok-numbers.ensures.spans;
      callers = c.in_ok-callers.ensures.callers;
      called = within_callers (spans_once c.args.input.now) c.in_ok-callers.callers.items c.in_ok-callers.ensures.callers;
      ends = subst HaveLastCallers (sym c.in_ok-callers.ensures.callers) (have_last_callers c.args.input.now c.in_ok-callers.ensures.ends);
      entries = λ d. subst (λ (xs : List Span). AreEntries xs (spans_at xs d entries)) spans (c.in_ok-entries.ensures.entries d);
      roots = subst (λ (cs : List (Option ℕ)). AreRoots cs entries) c.deref-4.ensures.value c.in_ok-entries.ensures.roots;
      within = subst (λ m. All (λ n. n < m) entries) (sym (lent_size c.deref-3.result.now) ∙ ap length spans) c.in_ok-entries.ensures.within;
      missing = c.in_ok-callers.ensures.missing;
    }
