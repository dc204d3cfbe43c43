-- The calls that stand in a thread are below the one that begins it.
use Rattle.std.proofs.Common.{◌≡◌, ◌≢◌, ◌⊎◌, inl, inr, ℕ, zero, suc, ◌<◌, List, [], ◌∷◌, All, Bool, true, false, cond, Option, Some, None, length, get_or, refl, sym, ap, ◌∙◌, arith}
use Rattle.std.specs.List.{count_by}
use Rattle.std.specs.Option.{option_and_then}
use Rattle.std.proofs.lemmas.Bool.{cases_Bool, cases_eq, eqb-true, false≢true}
use Rattle.std.proofs.lemmas.List.Elements.{All-head, All-tail}
use Rattle.span_requests.specs.CallerNumbers.{number_above}
use Rattle.span_calls.specs.Calls.{AreBefore}
use Rattle.span_calls.specs.declared.call.Call.{Call}
use Rattle.context_forks.specs.Forks.{callers_of}
use Rattle.thread_steps.specs.Parts.{Grouping, forks}
use Rattle.thread_steps.specs.Steps.{call_of}
use Rattle.thread_steps.specs.ThreadCalls.{Stands, ThreadsAreOfCallsBelow, ThreadsKeepTests}
use Rattle.thread_steps.specs.ThreadLaws.{caller_within, count_of, is_start, thread_steps}
use Rattle.thread_steps.specs.declared.step.Step.{Step}
use Rattle.thread_steps.specs.declared.step.Step.TheVariants.{Starts, Ends, Forks, Joins}
use Rattle.thread_steps.proofs.GapLemmas.{count-cons}
use Rattle.thread_steps.proofs.KeyLemmas.{calls_within}
use Rattle.thread_steps.proofs.LawLemmas.{calls_stand_with_callers}
use Rattle.thread_steps.proofs.TableLemmas.{caller_before}

start_within : (n c : ℕ) (steps : List Step) → All (λ s. call_of s < n) steps → 0 < count_by (is_start c) steps → c < n
start_within n c [] all some = absurd (let e : ⊥ = omega (arith, some) in e)
start_within n c (s ∷ steps) all some = by (cases_Bool (is_start c s)) (start_within n c steps (All-tail (λ s. call_of s < n) s steps all))
  where
    own : (s : Step) → call_of s < n → is_start c s ≡ true → c < n
    own (Starts j) lt h = omega (arith, lt, eqb-true c j h)
    own (Ends j) lt h = absurd (false≢true h)
    own (Forks j) lt h = absurd (false≢true h)
    own (Joins j piece) lt h = absurd (false≢true h)

    by : (is_start c s ≡ true) ⊎ (is_start c s ≡ false) → (0 < count_by (is_start c) steps → c < n) → c < n
    by (inl here) rest = own s (All-head (λ s. call_of s < n) s steps all) here
    by (inr other) rest = rest (omega (arith, some, count-cons (is_start c) s steps, ap (λ b. cond {A = ℕ} b 1 0) other))

module _ (calls : List Call) (grouping : Grouping) (group_numbers : List ℕ) (before : AreBefore calls) (head : ℕ) (less : head < length calls) where
  stands_within : (c : ℕ) → Stands calls grouping group_numbers head c → c < length calls
  stands_within c some = start_within (length calls) c (thread_steps calls grouping group_numbers head) (calls_within calls grouping group_numbers before (length calls) head less) some

  -- a call that stands in the thread begins it, or its caller stands there
  step_up : (c : ℕ) → Stands calls grouping group_numbers head c → c ≢ head → (d : ℕ) × (caller_within calls grouping c ≡ Some d) × Stands calls grouping group_numbers head d
  step_up c some other = by (caller_within calls grouping c) refl (sym (calls_stand_with_callers calls grouping group_numbers before head c less (stands_within c some) other).0)
    where
      by : (o : Option ℕ) → caller_within calls grouping c ≡ o → count_of calls grouping group_numbers is_start (caller_within calls grouping c) head ≡ count_by (is_start c) (thread_steps calls grouping group_numbers head)
          → (d : ℕ) × (caller_within calls grouping c ≡ Some d) × Stands calls grouping group_numbers head d
      by None e h = absurd (let gone : ⊥ = omega (arith, some, h, ap (λ (o : Option ℕ). count_of calls grouping group_numbers is_start o head) e) in gone)
      by (Some d) e h = (d, e, omega (arith, some, h, ap (λ (o : Option ℕ). count_of calls grouping group_numbers is_start o head) e))

  called : (c d : ℕ) → caller_within calls grouping c ≡ Some d → get_or (callers_of calls) c None ≡ Some d
  called c d h = by (forks grouping c) h
    where
      by : (b : Bool) → cond b None (get_or (callers_of calls) c None) ≡ Some d → get_or (callers_of calls) c None ≡ Some d
      by true h = cc
      by false h = h

  above : (n c : ℕ) → c < n → Stands calls grouping group_numbers head c → (k : ℕ) × (number_above (callers_of calls) k c ≡ Some head)
  above zero c lt some = absurd (let e : ⊥ = omega (arith, lt) in e)
  above (suc n) c lt some = by (cases_eq c head) (above n)
    where
      by : (c ≡ head) ⊎ (c ≡ head → ⊥) → ((d : ℕ) → d < n → Stands calls grouping group_numbers head d → (k : ℕ) × (number_above (callers_of calls) k d ≡ Some head)) → (k : ℕ) × (number_above (callers_of calls) k c ≡ Some head)
      by (inl same) rest = (0, ap (λ i. Some i) same)
      by (inr other) rest =
          let up = step_up c some other in
          let own = called c up.0 up.1 in
          let low : up.0 < c = caller_before calls before up.0 c own in
          let further = rest up.0 (omega (arith, low, lt)) up.2 in
          (suc further.0, ap (option_and_then (number_above (callers_of calls) further.0)) own ∙ further.1)

  module _ (passes : ℕ → Bool) (first : passes head ≡ true) (keeps : (i d : ℕ) → i < length calls → caller_within calls grouping i ≡ Some d → passes d ≡ true → passes i ≡ true) where
    kept : (n c : ℕ) → c < n → Stands calls grouping group_numbers head c → passes c ≡ true
    kept zero c lt some = absurd (let e : ⊥ = omega (arith, lt) in e)
    kept (suc n) c lt some = by (cases_eq c head) (kept n)
      where
        by : (c ≡ head) ⊎ (c ≡ head → ⊥) → ((d : ℕ) → d < n → Stands calls grouping group_numbers head d → passes d ≡ true) → passes c ≡ true
        by (inl same) rest = ap passes same ∙ first
        by (inr other) rest =
            let up = step_up c some other in
            let low : up.0 < c = caller_before calls before up.0 c (called c up.0 up.1) in
            keeps c up.0 (stands_within c some) up.1 (rest up.0 (omega (arith, low, lt)) up.2)

pub threads_are_of_calls_below : ThreadsAreOfCallsBelow
threads_are_of_calls_below calls grouping group_numbers before head c less some = (
  stands_within calls grouping group_numbers before head less c some,
  above calls grouping group_numbers before head less (suc c) c (omega arith) some,
)

pub threads_keep_tests : ThreadsKeepTests
threads_keep_tests calls grouping group_numbers before head c less some passes first keeps = kept calls grouping group_numbers before head less passes first keeps (suc c) c (omega arith) some
