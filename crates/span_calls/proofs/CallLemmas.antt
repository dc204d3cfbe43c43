-- Calls by index.
use Rattle.std.proofs.Common.{◌≡◌, ℕ, ◌+◌, ◌<◌, List, [], ◌∷◌, ◌++◌, All, eqb, Option, Some, None, Bor, length, get_or, map, take, refl, sym, ap, ◌∙◌, subst, arith}
use Rattle.std.specs.Prelude.{position}
use Rattle.std.specs.Option.{option_and_then}
use Rattle.std.proofs.lemmas.List.{get_or-map, get_or_default, length-take, take_all}
use Rattle.std.proofs.lemmas.List.Elements.{All-get_or}
use Rattle.std.proofs.lemmas.List.Quantifiers.{position-Some}
use Rattle.std.proofs.lemmas.Option.{get_or_from_slice_get, slice_get_within}
use Rattle.call_trees.specs.Tables.{table_of}
use Rattle.call_trees.proofs.TableLemmas.{get_or-table, length_from_table, mapped_more, table_at, table_more}
use Rattle.span_types.specs.declared.span.Span.{Span}
use Rattle.span_requests.specs.SpansOnce.{lent_spans}
use Rattle.span_calls.specs.Calls.{AreBefore, AreCallsAt, AreListed, Moments, moments_at, moments_cmp, position_at}
use Rattle.span_calls.specs.Seen.{span_at}
use Rattle.span_calls.proofs.SeenLemmas.{span_is}
use Rattle.span_calls.specs.declared.call.Call.{Call}
use Rattle.span_calls.specs.declared.call_key.CallKey.{CallKey}
use Rattle.span_calls.specs.inner.CallKeys.{all_moments, moments_of}
use Rattle.std.specs.declared.cmp.Ordering.{Ordering}

-- the order of keys
abbrev pub key_cmp : CallKey → CallKey → Ordering
key_cmp a b = moments_cmp (moments_of a) (moments_of b)

pub before_from : (callers : List (Option ℕ)) (numbers : List ℕ) (n : ℕ) (calls : List Call) → map (λ (c : Call). c.caller) calls ≡ table_of (position_at callers numbers) n → AreBefore calls
before_from callers numbers n calls h i call c there up = by (get_or callers (get_or numbers i 0) None) refl
  where
    lt : i < length calls
    lt = slice_get_within calls i call there

    own : Some c ≡ position_at callers numbers i
    own =
        sym (ap (λ (k : Call). k.caller) (get_or_from_slice_get calls i call call there) ∙ up) ∙ sym (get_or-map (λ (k : Call). k.caller) calls i call None lt)
        ∙ ap (λ (xs : List (Option ℕ)). get_or xs i None) h ∙ get_or-table (position_at callers numbers) n i None (omega (arith, lt, length_from_table (position_at callers numbers) (λ (k : Call). k.caller) calls n h))

    by : (o : Option ℕ) → get_or callers (get_or numbers i 0) None ≡ o → c < i
    by None e = absurd (gone (own ∙ ap (option_and_then (λ d. position (λ k. eqb k d) (take i numbers))) e))
      where
        gone : Some c ≡ None → ⊥
        gone q = cc
    by (Some d) e =
        let found = position-Some (λ k. eqb k d) (take i numbers) c 0 (sym (own ∙ ap (option_and_then (λ d. position (λ k. eqb k d) (take i numbers))) e)) in
        omega (arith, found.0, length-take i numbers)

-- the calls with the first numbers
pub record AreCallsTo (spans : List Span) (callers : List (Option ℕ)) (numbers : List ℕ) (at : ℕ) (calls : List Call) : Type 0 where
  pub told : map (λ (c : Call). c.span.now) calls ≡ map (span_at spans) (take at numbers)
  pub called : map (λ (c : Call). c.caller) calls ≡ table_of (position_at callers numbers) at
  pub starts : map (λ (c : Call). c.start) calls ≡ map (λ i. (moments_at spans callers i).start) (take at numbers)
  pub ends : map (λ (c : Call). c.end) calls ≡ map (λ i. (moments_at spans callers i).end) (take at numbers)

pub calls_none : (spans : List Span) (callers : List (Option ℕ)) (numbers : List ℕ) (calls : List Call) → calls ≡ [] → AreCallsTo spans callers numbers 0 calls
calls_none spans callers numbers calls e = subst (AreCallsTo spans callers numbers 0) (sym e) record { told = refl; called = refl; starts = refl; ends = refl }

pub calls_all : (spans : List Span) (callers : List (Option ℕ)) (numbers : List ℕ) (at : ℕ) (calls : List Call) → at ≡ length numbers → AreCallsTo spans callers numbers at calls → AreCallsAt spans callers numbers calls
calls_all spans callers numbers at calls is h = record {
  told = h.told ∙ ap (map (span_at spans)) all;
  called = h.called ∙ ap (table_of (position_at callers numbers)) is;
  starts = h.starts ∙ ap (map (λ i. (moments_at spans callers i).start)) all;
  ends = h.ends ∙ ap (map (λ i. (moments_at spans callers i).end)) all;
}
  where
    all : take at numbers ≡ numbers
    all = take_all at numbers (omega (arith, is))

module _ (xs : List (Bor Span)) (callers : List (Option ℕ)) (keys : List CallKey) (numbers : List ℕ) (keyed : all_moments keys ≡ table_of (moments_at (lent_spans xs) callers) (length xs)) (within : All (λ n. n < length xs) numbers) where
  pub number_low : (at : ℕ) → at < length numbers → get_or numbers at 0 < length xs
  number_low at lt = All-get_or (λ n. n < length xs) numbers at 0 lt within

  pub keys_size : length keys ≡ length xs
  keys_size = length_from_table (moments_at (lent_spans xs) callers) moments_of keys (length xs) keyed

  pub calls_more : (at : ℕ) (calls new : List Call) (s : Bor Span) (p : Option ℕ) (d : CallKey) → at < length numbers → s ≡ get_or xs (get_or numbers at 0) s → p ≡ position_at callers numbers at
      → new ≡ calls ++ record { span = s; caller = p; start = (get_or keys (get_or numbers at 0) d).start; end = (get_or keys (get_or numbers at 0) d).end } ∷ []
      → AreCallsTo (lent_spans xs) callers numbers at calls → AreCallsTo (lent_spans xs) callers numbers (at + 1) new
  calls_more at calls new s p d lt is own step h = record {
    told = mapped_more (span_at (lent_spans xs)) (λ (c : Call). c.span.now) numbers calls new call n at lt same h.told (sym (span_is xs n s low is)) step;
    called = table_more (position_at callers numbers) (λ (c : Call). c.caller) calls new call at h.called own step;
    starts = mapped_more (λ i. (moments_at (lent_spans xs) callers i).start) (λ (c : Call). c.start) numbers calls new call n at lt same h.starts (ap (λ (m : Moments). m.start) moments) step;
    ends = mapped_more (λ i. (moments_at (lent_spans xs) callers i).end) (λ (c : Call). c.end) numbers calls new call n at lt same h.ends (ap (λ (m : Moments). m.end) moments) step;
  }
    where
      n : ℕ
      n = get_or numbers at 0

      low : get_or numbers at 0 < length xs
      low = number_low at lt

      call : Call
      call = record { span = s; caller = p; start = (get_or keys (get_or numbers at 0) d).start; end = (get_or keys (get_or numbers at 0) d).end }

      same : get_or numbers at 0 ≡ get_or numbers at (get_or numbers at 0)
      same = get_or_default numbers at 0 (get_or numbers at 0) lt

      moments : moments_of (get_or keys (get_or numbers at 0) d) ≡ moments_at (lent_spans xs) callers (get_or numbers at 0)
      moments = table_at (moments_at (lent_spans xs) callers) moments_of keys (length xs) (get_or numbers at 0) (get_or keys (get_or numbers at 0) d) keyed low
          (get_or_default keys (get_or numbers at 0) d (get_or keys (get_or numbers at 0) d) (omega (arith, low, keys_size)))

pub listed_is : (m m' : List Moments) (cs cs' : List (Option ℕ)) (es es' ns : List ℕ) → m ≡ m' → cs ≡ cs' → es ≡ es' → AreListed m cs es ns → AreListed m' cs' es' ns
listed_is m m' cs cs' es es' ns p q r h = subst (λ (x : List Moments). AreListed x cs' es' ns) p (subst (λ (x : List (Option ℕ)). AreListed m x es' ns) q (subst (λ (x : List ℕ). AreListed m cs x ns) r h))
