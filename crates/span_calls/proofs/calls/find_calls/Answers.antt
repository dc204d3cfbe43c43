use Rattle.std.proofs.Common.{◌≡◌, ◌∙◌, ◌<◌, All, List, Option, ℕ, Bor, Vec, Global, ap, filter, length, sym, subst}
use Rattle.std.specs.Prelude.{option_copied}
use Rattle.std.proofs.lemmas.List.{length-map}
use Rattle.std.proofs.lemmas.List.Elements.{All-filter}
use Rattle.std.proofs.lemmas.Result.{IfOk-weaker}
use Rattle.call_trees.specs.Tables.{table_of}
use Rattle.call_trees.proofs.TableLemmas.{length_from_table}
use Rattle.span_types.specs.declared.span.Span.{Span}
use Rattle.span_requests.specs.CallerNumbers.{AreRoots}
use Rattle.span_requests.specs.SpansOnce.{lent_spans}
use Rattle.span_calls.specs.Calls.{AreCalls, AreCallsAt, is_asked, moments_at}
use Rattle.span_calls.specs.Seen.{span_at}
use Rattle.span_calls.specs.declared.call.Call.{Call}
use Rattle.span_calls.specs.declared.call_key.CallKey.{CallKey}
use Rattle.span_calls.specs.inner.CallKeys.{all_moments, moments_of}
use Rattle.span_calls.proofs.CallLemmas.{before_from, listed_is}
use Rattle.span_calls.proofs.RiseLemmas.{calls_rise}
use Rattle.span_calls.proofs.calls.find_calls.Goals as goal

pub list_calls-requires-clause-same : goal.list_calls-requires-clause-same
list_calls-requires-clause-same c =
    let own = c.in_ok-callers.ensures ∙ c.deref.ensures.value in
    ap length c.deref-7.ensures.value
    ∙ length_from_table (moments_at (lent_spans c.deref-2.result.now) c.deref-3.result.now) moments_of c.in_ok-keys.keys.items (length c.deref-2.result.now) c.in_ok-keys.ensures
    ∙ ap length c.deref-2.ensures.value ∙ sym c.requires.same ∙ sym (ap length (c.deref-6.ensures.value ∙ own))

pub list_calls-requires-clause-within : goal.list_calls-requires-clause-within
list_calls-requires-clause-within c =
    let own = c.in_ok-callers.ensures ∙ c.deref.ensures.value in
    let size : length c.deref-6.result.now ≡ length c.args.requests.now.spans.items = ap length (c.deref-6.ensures.value ∙ own) ∙ c.requires.same in
    let p = λ (e : ℕ). is_asked (option_copied c.args.asked) (span_at (lent_spans c.deref-4.result.now) e) in
    subst (All (λ e. e < length c.deref-6.result.now)) (sym (c.deref-8.ensures.value ∙ c.in_ok-entries.ensures))
    (All-filter p (λ e. e < length c.deref-6.result.now) c.deref-5.result.now
    (subst (All (λ e. e < length c.deref-6.result.now)) (sym c.deref-5.ensures.value) (subst (λ m. All (λ e. e < m) c.args.requests.now.entries.items) (sym size) c.requires.within)))

pub returns-clause-calls : goal.returns-clause-calls
returns-clause-calls c =
    let spans = c.args.requests.now.spans.items in
    let callers = c.args.requests.now.callers.items in
    let numbers = c.in_ok-numbers.numbers.items in
    let own = c.in_ok-callers.ensures ∙ c.deref.ensures.value in
    let asked = option_copied c.args.asked in
    let moments = ap (λ (ks : List CallKey). all_moments ks) c.deref-7.ensures.value ∙ c.in_ok-keys.ensures
    ∙ ap (λ (ss : List (Bor Span)). table_of (moments_at (lent_spans ss) c.deref-3.result.now) (length ss)) c.deref-2.ensures.value
    ∙ ap (λ (cs : List (Option ℕ)). table_of (moments_at (lent_spans spans) cs) (length spans)) (c.deref-3.ensures.value ∙ own)
    ∙ ap (table_of (moments_at (lent_spans spans) callers)) (sym (length-map spans (λ (s : Bor Span). s.now))) in
    let entries = c.deref-8.ensures.value ∙ c.in_ok-entries.ensures
    ∙ ap (λ (ss : List (Bor Span)). filter (λ e. is_asked asked (span_at (lent_spans ss) e)) c.deref-5.result.now) c.deref-4.ensures.value
    ∙ ap (filter (λ e. is_asked asked (span_at (lent_spans spans) e))) c.deref-5.ensures.value in
    IfOk-weaker c.make_calls.result _ _ (λ (v : Vec Call Global) (h : AreCallsAt (lent_spans c.deref-9.result.now) c.deref-10.result.now c.deref-12.result.now v.items). record {
      numbers = numbers;
      listed = listed_is _ _ _ _ _ _ numbers moments (c.deref-6.ensures.value ∙ own) entries c.in_ok-numbers.ensures.listed;
      are = subst (λ (ss : List (Bor Span)). AreCallsAt (lent_spans ss) callers numbers v.items) c.deref-9.ensures.value
          (subst (λ (cs : List (Option ℕ)). AreCallsAt (lent_spans c.deref-9.result.now) cs numbers v.items) (c.deref-10.ensures.value ∙ own)
          (subst (λ (ns : List ℕ). AreCallsAt (lent_spans c.deref-9.result.now) c.deref-10.result.now ns v.items) c.deref-12.ensures.value h));
    }) c.make_calls.ensures

pub returns-clause-rise : goal.returns-clause-rise
returns-clause-rise c =
    let spans = lent_spans c.args.requests.now.spans.items in
    let callers = c.args.requests.now.callers.items in
    let asked = option_copied c.args.asked in
    let entries = c.args.requests.now.entries.items in
    IfOk-weaker c.make_calls.result _ _ (λ (v : Vec Call Global) (h : AreCalls spans callers asked entries v.items) (roots : AreRoots callers entries).
    calls_rise spans callers asked entries v.items c.requires.ends roots h) (returns-clause-calls c)

pub returns-clause-before : goal.returns-clause-before
returns-clause-before c = IfOk-weaker c.make_calls.result _ _ (λ (v : Vec Call Global) (h : AreCallsAt (lent_spans c.deref-9.result.now) c.deref-10.result.now c.deref-12.result.now v.items).
    before_from c.deref-10.result.now c.deref-12.result.now (length c.deref-12.result.now) v.items h.called) c.make_calls.ensures
