-- Requests: where they end, and their names.
use Rattle.std.proofs.Common.{◌≡◌, ◌∙◌, ◌⊎◌, inl, inr, ℕ, ◌+◌, ◌-◌, ◌<◌, ◌≤◌, List, true, false, Option, None, length, get_or, drop, ap, arith}
use Rattle.std.specs.Prelude.{is_none}
use Rattle.std.proofs.lemmas.Bool.{cases_order}
use Rattle.std.proofs.lemmas.List.{get_or-drop, length-drop, length-map}
use Rattle.std.proofs.lemmas.List.Sums.{position_or_len_is}
use Rattle.span_calls.specs.declared.call.Call.{Call}
use Rattle.context_forks.specs.Forks.{callers_of}
use Rattle.span_lines.specs.Requests.{request_size}

module _ (calls : List Call) (call at : ℕ) (first : call < at) (within : at ≤ length calls) where
  size : length (callers_of calls) ≡ length calls
  size = length-map calls (λ (c : Call). c.caller)

  pub end_is : ((k : ℕ) → call < k → k < at → is_none (get_or (callers_of calls) k None) ≡ false) → (at < length calls → is_none (get_or (callers_of calls) at None) ≡ true) → at ≡ call + request_size calls call
  end_is h e =
      let rest = drop (call + 1) (callers_of calls) in
      let n = at - (call + 1) in
      let long : length (drop (call + 1) (callers_of calls)) ≡ length (callers_of calls) - (call + 1) = length-drop (call + 1) (callers_of calls) in
      let p = position_or_len_is (λ (o : Option ℕ). is_none o) (drop (call + 1) (callers_of calls)) (at - (call + 1)) None (omega (arith, long, size, within))
      (λ k lt. ap is_none (get_or-drop (call + 1) (callers_of calls) k None) ∙ h (call + 1 + k) (omega arith) (omega (arith, lt, first)))
      (λ lt. ap is_none (get_or-drop (call + 1) (callers_of calls) (at - (call + 1)) None ∙ ap (λ i. get_or (callers_of calls) i None) (let s : call + 1 + (at - (call + 1)) ≡ at = omega (arith, first) in s)) ∙ e (omega (arith, lt, long, size, first))) in
      omega (arith, p, first)

-- no request begins at one more call
pub none_more : (callers : List (Option ℕ)) (call at : ℕ) → ((k : ℕ) → call < k → k < at → is_none (get_or callers k None) ≡ false) → is_none (get_or callers at None) ≡ false → (k : ℕ) → call < k → k < at + 1 → is_none (get_or callers k None) ≡ false
none_more callers call at h e k low lt = by (cases_order k at)
  where
    by : (k ≡ at) ⊎ ((k < at) ⊎ (at < k)) → is_none (get_or callers k None) ≡ false
    by (inl same) = ap (λ i. is_none (get_or callers i None)) same ∙ e
    by (inr (inl less)) = h k low less
    by (inr (inr more)) = absurd (omega (arith, more, lt))
