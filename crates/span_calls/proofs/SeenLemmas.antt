-- Spans by number.
use Rattle.std.proofs.Common.{◌≡◌, ℕ, ◌<◌, List, Some, Bor, length, get_or, sym, ap, ◌∙◌}
use Rattle.std.proofs.lemmas.List.{get_or-map}
use Rattle.span_types.specs.declared.span.Span.{Span}
use Rattle.span_requests.specs.SpansOnce.{lent_spans}
use Rattle.span_calls.specs.Seen.{caller_in, no_span, span_at}

-- the span at an index of a list of references
pub span_is : (xs : List (Bor Span)) (i : ℕ) (s : Bor Span) → i < length xs → s ≡ get_or xs i s → span_at (lent_spans xs) i ≡ s.now
span_is xs i s lt is = get_or-map (λ (t : Bor Span). t.now) xs i s no_span lt ∙ ap (λ (t : Bor Span). t.now) (sym is)

pub caller_is : (xs : List (Bor Span)) (c : ℕ) (s : Bor Span) → c < length xs → s ≡ get_or xs c s → caller_in (lent_spans xs) (Some c) ≡ Some s.now
caller_is xs c s lt is = ap (λ (t : Span). Some t) (span_is xs c s lt is)
