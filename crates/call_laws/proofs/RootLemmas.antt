-- The entries of an input are the spans that no span calls, each once.
use Rattle.std.proofs.Common.{◌≡◌, ◌⊎◌, inl, inr, ℕ, ◌<◌, List, [], ◌∷◌, All, Bool, true, false, Option, Some, None, filter, length, get_or, map, refl, sym, ap, ◌∙◌, subst, arith, true≢false}
use Rattle.std.specs.Prelude.{is_none, not}
use Rattle.std.specs.List.{AllPairs, Contains, IsDistinct}
use Rattle.std.specs.Str.{bytes_eq}
use Rattle.std.proofs.lemmas.Bool.{cases_order, not-true}
use Rattle.std.proofs.lemmas.List.{get_or-map, get_or_default, length-map}
use Rattle.std.proofs.lemmas.List.Elements.{All-from_get_or, All-get_or, All-weaker, filter_passes}
use Rattle.std.proofs.lemmas.List.Kept.{AllPairs-cons, AllPairs-filter}
use Rattle.std.proofs.lemmas.List.Sorted.{All-permutation, Contains-permutation}
use Rattle.std.proofs.lemmas.Map.Keys.{IsDistinct-IsPermutation, IsDistinct-from_apart, apart_from_distinct}
use Rattle.std.proofs.lemmas.Slice.Eq.{bytes_eq-Decides}
use Rattle.trace_types.specs.Firsts.{firsts_of}
use Rattle.span_types.specs.declared.span.Span.{Span}
use Rattle.span_requests.specs.CallerNumbers.{AreRoots}
use Rattle.span_requests.specs.Callers.{caller_number, caller_numbers, is_caller}
use Rattle.span_requests.specs.Entries.{AreEntries, is_entry}
use Rattle.span_requests.specs.SpansOnce.{have_one_id, spans_once}
use Rattle.span_requests.proofs.CallerLemmas.{is_none-position}
use Rattle.span_requests.proofs.ContainsLemmas.{contains_filter}
use Rattle.span_requests.proofs.ListLemmas.{is_none-find}
use Rattle.span_requests.proofs.RequestLemmas.{have_last_callers, within_callers}
use Rattle.span_calls.specs.Seen.{no_span, span_at}
use Rattle.call_laws.specs.CallLaws.{InputsHaveCalls}
use Rattle.call_laws.proofs.OverlapLemmas.{same_bool}

-- ---- spans that are there once have different ids

pub firsts_apart : {X : Type 0} (same : X → X → Bool) (xs : List X) → AllPairs (λ x y. same x y ≡ false) (firsts_of same xs)
firsts_apart same [] = λ i j d lt low. absurd (omega (arith, low))
firsts_apart {X} same (x ∷ xs) = AllPairs-cons (λ (y : X) (z : X). same y z ≡ false) x (filter (λ y. not (same x y)) (firsts_of same xs))
    (All-weaker (λ (y : X). not (same x y) ≡ true) (λ (y : X). same x y ≡ false) (λ (y : X) e. not-true (same x y) e) (filter (λ y. not (same x y)) (firsts_of same xs)) (filter_passes (λ y. not (same x y)) (firsts_of same xs)))
    (AllPairs-filter (λ (y : X) (z : X). same y z ≡ false) (λ y. not (same x y)) (firsts_of same xs) (firsts_apart same xs))

bytes_turn : (a b : List ℕ) → bytes_eq a b ≡ bytes_eq b a
bytes_turn a b = same_bool (bytes_eq a b) (bytes_eq b a) (λ e. (bytes_eq-Decides b a).1 (sym ((bytes_eq-Decides a b).0 e))) (λ e. (bytes_eq-Decides a b).1 (sym ((bytes_eq-Decides b a).0 e)))

pub ids_turn : (s t : Span) → have_one_id s t ≡ have_one_id t s
ids_turn s t = rw (bytes_turn s.trace t.trace, bytes_turn s.id t.id) refl

pub ids_own : (s : Span) → have_one_id s s ≡ true
ids_own s = rw ((bytes_eq-Decides s.trace s.trace).1 refl, (bytes_eq-Decides s.id s.id).1 refl) refl

-- spans that have one id have one number
pub one_number : (spans : List Span) → AllPairs (λ s t. have_one_id s t ≡ false) spans → (i j : ℕ) → i < length spans → j < length spans → have_one_id (span_at spans i) (span_at spans j) ≡ true → i ≡ j
one_number spans apart i j lt less e = by (cases_order i j)
  where
    by : (i ≡ j) ⊎ ((i < j) ⊎ (j < i)) → i ≡ j
    by (inl q) = q
    by (inr (inl low)) = absurd (true≢false (sym e ∙ apart i j no_span low less))
    by (inr (inr high)) = absurd (true≢false (sym e ∙ ids_turn (span_at spans i) (span_at spans j) ∙ apart j i no_span high lt))

-- ---- entries

module _ (spans : List Span) (apart : AllPairs (λ s t. have_one_id s t ≡ false) spans) (entries : List ℕ) (within : All (λ e. e < length spans) entries) (h : AreEntries spans (map (span_at spans) entries)) where
  at : (k : ℕ) (d : Span) → k < length entries → get_or (map (span_at spans) entries) k d ≡ span_at spans (get_or entries k 0)
  at k d lt = get_or-map (span_at spans) entries k 0 d lt

  -- a number without a caller is that of an entry
  entry_is : (e : ℕ) → e < length spans → is_none (get_or (caller_numbers spans) e None) ≡ is_entry spans (span_at spans e)
  entry_is e lt =
      ap is_none (get_or-map (caller_number spans) spans e no_span None lt) ∙ is_none-position (λ p. is_caller p (span_at spans e)) spans ∙ sym (is_none-find (λ p. is_caller p (span_at spans e)) spans)

  none_from : (o : Option ℕ) → is_none o ≡ true → o ≡ None
  none_from None e = refl
  none_from (Some n) e = absurd (true≢false (sym e))

  all_entries : All (λ s. is_entry spans s ≡ true) (map (span_at spans) entries)
  all_entries = All-permutation (λ s. is_entry spans s ≡ true) (filter (is_entry spans) spans) (map (span_at spans) entries) h.all (filter_passes (is_entry spans) spans)

  distinct : IsDistinct have_one_id (map (span_at spans) entries)
  distinct = IsDistinct-IsPermutation have_one_id ids_turn (filter (is_entry spans) spans) (map (span_at spans) entries) h.all
      (IsDistinct-from_apart have_one_id (filter (is_entry spans) spans) (AllPairs-filter (λ s t. have_one_id s t ≡ false) (is_entry spans) spans apart))

  pub are_roots : AreRoots (caller_numbers spans) entries
  are_roots = record {
    first = All-from_get_or (λ e. get_or (caller_numbers spans) e None ≡ None) entries 0 (λ k lt.
        let e = get_or entries k 0 in
        let low : e < length spans = All-get_or (λ e. e < length spans) entries k 0 lt within in
        let own : is_entry spans (span_at spans e) ≡ true = subst (λ (s : Span). is_entry spans s ≡ true) (at k no_span lt) (All-get_or (λ s. is_entry spans s ≡ true) (map (span_at spans) entries) k no_span (omega (arith, lt, length-map entries (span_at spans))) all_entries) in
        none_from (get_or (caller_numbers spans) e None) (entry_is e low ∙ own));
    apart = λ i j d lt less e.
        let size = length-map entries (span_at spans) in
        let e0 : get_or entries i 0 ≡ get_or entries j 0 = get_or_default entries i 0 d (omega (arith, lt, less)) ∙ e ∙ get_or_default entries j d 0 less in
        true≢false (sym (ids_own (span_at spans (get_or entries j 0))) ∙ ap (λ k. have_one_id (span_at spans k) (span_at spans (get_or entries j 0))) (sym e0)
        ∙ ap (λ (s : Span). have_one_id s (span_at spans (get_or entries j 0))) (sym (at i no_span (omega (arith, lt, less)))) ∙ ap (have_one_id (get_or (map (span_at spans) entries) i no_span)) (sym (at j no_span less))
        ∙ apart_from_distinct have_one_id (map (span_at spans) entries) i j no_span distinct lt (omega (arith, less, size)));
    all = λ e lt none.
        let low : e < length spans = omega (arith, lt, length-map spans (caller_number spans)) in
        let there : Contains spans (span_at spans e) = (e, low, get_or_default spans e (span_at spans e) no_span low) in
        let found = Contains-permutation (filter (is_entry spans) spans) (map (span_at spans) entries) (span_at spans e) h.all (contains_filter (is_entry spans) spans (span_at spans e) there (sym (entry_is e low) ∙ ap is_none none)) in
        let k = found.0 in
        let small : k < length entries = omega (arith, found.1, length-map entries (span_at spans)) in
        let same : span_at spans (get_or entries k 0) ≡ span_at spans e = sym (at k (span_at spans e) small) ∙ found.2 in
        let is : get_or entries k 0 ≡ e = one_number spans apart (get_or entries k 0) e (All-get_or (λ e. e < length spans) entries k 0 small within) low (ap (λ (s : Span). have_one_id s (span_at spans e)) same ∙ ids_own (span_at spans e)) in
        (k, small, get_or_default entries k e 0 small ∙ is);
  }

pub have_calls : InputsHaveCalls
have_calls input asked entries calls ends within begin called = record {
  same = length-map (spans_once input) (caller_number (spans_once input));
  called = within_callers (spans_once input) (caller_numbers (spans_once input)) refl;
  ends = have_last_callers input ends;
  roots = are_roots (spans_once input) (firsts_apart have_one_id input) entries within begin;
  within = within;
  are = called;
}
