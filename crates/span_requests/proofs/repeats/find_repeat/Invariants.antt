use Rattle.std.proofs.Common.{◌≡◌, ℕ, ◌<◌, false, get_or}
use Rattle.span_types.specs.declared.span.Span.{Span}
use Rattle.span_requests.specs.SpansOnce.{repeats_id}
use Rattle.span_requests.proofs.repeats.find_repeat.Given as goal

-- none of the spans so far repeats an id
abbrev pub invariant-loop-index : goal.invariant-loop-index
invariant-loop-index l = (k : ℕ) (d : Span) → k < l.index → repeats_id l.input (get_or l.input k d) ≡ false
