-- Calls by index.
use Rattle.std.proofs.Common.{◌≡◌, ◌∙◌, ℕ, ◌<◌, List, None, length, get_or, ap, sym}
use Rattle.std.proofs.lemmas.List.{get_or-map}
use Rattle.context_forks.specs.Forks.{callers_of}
use Rattle.context_forks.specs.Partners.{end_of, start_of}
use Rattle.span_calls.specs.Seen.{no_span}
use Rattle.span_calls.specs.declared.call.Call.{Call}
use Rattle.span_lines.specs.Messages.{call_span, caller_of_call}

module _ (calls : List Call) (i : ℕ) (c : Call) (lt : i < length calls) (is : c ≡ get_or calls i c) where
  pub span_is : call_span calls i ≡ c.span.now
  span_is = get_or-map (λ (d : Call). d.span.now) calls i c no_span lt ∙ ap (λ (d : Call). d.span.now) (sym is)

  pub caller_is : caller_of_call calls i ≡ c.caller
  caller_is = get_or-map (λ (d : Call). d.caller) calls i c None lt ∙ ap (λ (d : Call). d.caller) (sym is)

  pub start_is : start_of calls i ≡ c.start
  start_is = get_or-map (λ (d : Call). d.start) calls i c 0 lt ∙ ap (λ (d : Call). d.start) (sym is)

  pub end_is : end_of calls i ≡ c.end
  end_is = get_or-map (λ (d : Call). d.end) calls i c 0 lt ∙ ap (λ (d : Call). d.end) (sym is)

pub span_at : (calls : List Call) (i : ℕ) (c : Call) → i < length calls → call_span calls i ≡ (get_or calls i c).span.now
span_at calls i c lt = get_or-map (λ (d : Call). d.span.now) calls i c no_span lt

pub end_at : (calls : List Call) (i : ℕ) (c : Call) → i < length calls → end_of calls i ≡ (get_or calls i c).end
end_at calls i c lt = get_or-map (λ (d : Call). d.end) calls i c 0 lt

pub caller_at : (calls : List Call) (i : ℕ) (c : Call) → i < length calls → get_or (callers_of calls) i None ≡ (get_or calls i c).caller
caller_at calls i c lt = get_or-map (λ (d : Call). d.caller) calls i c None lt

pub start_at : (calls : List Call) (i : ℕ) (c : Call) → i < length calls → start_of calls i ≡ (get_or calls i c).start
start_at calls i c lt = get_or-map (λ (d : Call). d.start) calls i c 0 lt
