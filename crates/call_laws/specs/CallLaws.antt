-- The calls of requests: statements that laws prove.
use Rattle.std.specs.Prelude.{ℕ, ◌≡◌, ◌≢◌, ◌<◌, List, All, Contains, Option, Some, None, true, length, map}
use Rattle.std.specs.Prelude.{slice_get, slice_index, slice_index_or, IsSome}
use Rattle.std.specs.List.{AllPairs}
use Rattle.span_types.specs.declared.span.Span.{Span}
use Rattle.span_requests.specs.CallerNumbers.{AreCallers, AreRoots, HaveLastCallers, number_above}
use Rattle.span_requests.specs.Callers.{caller_numbers}
use Rattle.span_requests.specs.Entries.{AreEntries}
use Rattle.span_requests.specs.Faults.{HaveEntries}
use Rattle.span_requests.specs.SpansOnce.{spans_once}
use Rattle.span_calls.specs.Calls.{AreCalls, is_asked}
use Rattle.span_calls.specs.Seen.{span_at}
use Rattle.span_calls.specs.declared.call.Call.{Call}

-- the calls of the requests that are asked for, of spans with these callers: callers come to an end,
-- and entries are the spans that no span calls
pub record AreCallsOf (spans : List Span) (callers : List (Option ℕ)) (asked : Option (List ℕ)) (entries : List ℕ) (calls : List Call) : Type 0 where
  pub same : length callers ≡ length spans
  pub called : AreCallers callers
  pub ends : HaveLastCallers callers
  pub roots : AreRoots callers entries
  pub within : All (λ e. e < length spans) entries
  pub are : AreCalls spans callers asked entries calls

-- the calls of an input are such calls: of its spans, each once, with the entries of its requests,
-- where no parents form a circle
abbrev pub InputsHaveCalls : Type 0
InputsHaveCalls = (input : List Span) (asked : Option (List ℕ)) (entries : List ℕ)
    (calls : List Call) → HaveEntries input → All (λ e. e < length (spans_once input)) entries
    → AreEntries (spans_once input) (map (span_at (spans_once input)) entries)
    → AreCalls (spans_once input) (caller_numbers (spans_once input)) asked entries calls
    → AreCallsOf (spans_once input) (caller_numbers (spans_once input)) asked entries calls

-- the span with this number is in a request that is asked for: it is so many calls below its entry
pub record IsAskedFor (spans : List Span) (callers : List (Option ℕ)) (asked : Option (List ℕ)) (n : ℕ) : Type 0 where
  pub calls : ℕ
  pub entry : ℕ
  pub above : number_above callers calls n ≡ Some entry
  pub first : slice_index_or callers entry None ≡ None
  pub wanted : is_asked asked (span_at spans entry) ≡ true

-- the numbers of the spans of the requests that are asked for, each once
pub record AreAskedFor (spans : List Span) (callers : List (Option ℕ)) (asked : Option (List ℕ)) (numbers : List ℕ) : Type 0 where
  pub apart : AllPairs (λ m n. m ≢ n) numbers
  pub within : All (λ n. n < length spans) numbers
  pub each : All (IsAskedFor spans callers asked) numbers
  pub all : (n : ℕ) → n < length spans → IsAskedFor spans callers asked n → Contains numbers n

-- each span of the requests that are asked for is one call
abbrev pub SpansAreCalledOnce : Type 0
SpansAreCalledOnce = (spans : List Span) (callers : List (Option ℕ)) (asked : Option (List ℕ))
    (entries : List ℕ) (calls : List Call) (h : AreCallsOf spans callers asked entries calls)
    → AreAskedFor spans callers asked h.are.numbers

-- where no request is asked for, each span is a call
abbrev pub EverySpanIsCalled : Type 0
EverySpanIsCalled = (spans : List Span) (callers : List (Option ℕ)) (entries : List ℕ)
    (calls : List Call) (h : AreCallsOf spans callers None entries calls) (n : ℕ)
    → n < length spans → Contains h.are.numbers n

-- a call without a caller is an entry
abbrev pub EntriesAreCalledByNone : Type 0
EntriesAreCalledByNone = (spans : List Span) (callers : List (Option ℕ)) (asked : Option (List ℕ))
    (entries : List ℕ) (calls : List Call) (h : AreCallsOf spans callers asked entries calls)
    (i : ℕ) (a : Call) → slice_get calls i ≡ Some a → a.caller ≡ None
    → slice_index_or callers (slice_index h.are.numbers i) None ≡ None

-- the calls of a request stand together: what stands between a call and its caller has a caller
abbrev pub CallsAreTogether : Type 0
CallsAreTogether = (spans : List Span) (callers : List (Option ℕ)) (asked : Option (List ℕ))
    (entries : List ℕ) (calls : List Call) → AreCallsOf spans callers asked entries calls
    → (i c j : ℕ) (a b : Call) → slice_get calls i ≡ Some a → a.caller ≡ Some c
    → slice_get calls j ≡ Some b → c < j → j < i → IsSome b.caller
