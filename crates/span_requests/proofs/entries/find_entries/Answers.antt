use Rattle.std.proofs.Common.{◌≡◌, ◌∙◌, ◌<◌, List, ℕ, Vec, Global, All, ap, length, sym, subst}
use Rattle.std.proofs.lemmas.Result.{IfOk-weaker}
use Rattle.span_types.specs.declared.span.Span.{Span}
use Rattle.span_requests.specs.CallerNumbers.{AreRoots}
use Rattle.span_requests.specs.Entries.{AreEntries, spans_at}
use Rattle.span_requests.specs.inner.EntryKeys.{indexes_of, entry_numbers}
use Rattle.span_requests.specs.inner.Ids.{lent_spans}
use Rattle.span_requests.proofs.CallerLemmas.{lent_size}
use Rattle.span_requests.proofs.EntryLemmas.{are_entries, entries_roots, entries_within}
use Rattle.span_requests.proofs.entries.find_entries.Goals as goal

pub returns-clause-entries : goal.returns-clause-entries
returns-clause-entries c =
    let spans = lent_spans c.args.spans.now in
    let order = c.sort_unstable.new.self.items in
    let indexes = c.in_ok-keys.ensures.indexes ∙ ap (entry_numbers c.args.callers.now) (sym (lent_size c.args.spans.now)) in
    IfOk-weaker c.numbers_of.result _ _ (λ (v : Vec ℕ Global) (h : v.items ≡ indexes_of c.deref.result.now) (d : Span).
    subst (λ (ns : List ℕ). AreEntries spans (spans_at spans d ns)) (sym (h ∙ ap indexes_of c.deref.ensures.value))
    (are_entries spans c.args.callers.now c.in_ok-keys.keys.items order c.requires.callers c.in_ok-keys.ensures.keys indexes c.sort_unstable.ensures.permutation c.sort_unstable.ensures.sorted d)) c.numbers_of.ensures

pub returns-clause-within : goal.returns-clause-within
returns-clause-within c =
    let spans = lent_spans c.args.spans.now in
    let order = c.sort_unstable.new.self.items in
    let indexes = c.in_ok-keys.ensures.indexes ∙ ap (entry_numbers c.args.callers.now) (sym (lent_size c.args.spans.now)) in
    IfOk-weaker c.numbers_of.result _ _ (λ (v : Vec ℕ Global) (h : v.items ≡ indexes_of c.deref.result.now).
    subst (λ (ns : List ℕ). All (λ n. n < length c.args.spans.now) ns) (sym (h ∙ ap indexes_of c.deref.ensures.value))
    (subst (λ m. All (λ n. n < m) (indexes_of order)) (lent_size c.args.spans.now)
    (entries_within spans c.args.callers.now c.in_ok-keys.keys.items order c.requires.callers c.in_ok-keys.ensures.keys indexes c.sort_unstable.ensures.permutation c.sort_unstable.ensures.sorted))) c.numbers_of.ensures

pub returns-clause-roots : goal.returns-clause-roots
returns-clause-roots c =
    let spans = lent_spans c.args.spans.now in
    let order = c.sort_unstable.new.self.items in
    let indexes = c.in_ok-keys.ensures.indexes ∙ ap (entry_numbers c.args.callers.now) (sym (lent_size c.args.spans.now)) in
    IfOk-weaker c.numbers_of.result _ _ (λ (v : Vec ℕ Global) (h : v.items ≡ indexes_of c.deref.result.now).
    subst (AreRoots c.args.callers.now) (sym (h ∙ ap indexes_of c.deref.ensures.value))
    (entries_roots spans c.args.callers.now c.in_ok-keys.keys.items order c.requires.callers c.in_ok-keys.ensures.keys indexes c.sort_unstable.ensures.permutation c.sort_unstable.ensures.sorted)) c.numbers_of.ensures
