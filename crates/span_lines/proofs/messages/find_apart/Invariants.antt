use Rattle.span_calls.specs.Seen.{are_apart}
use Rattle.span_lines.proofs.FarLemmas.{AreFarTo}
use Rattle.span_lines.specs.Messages.{call_span}
use Rattle.span_lines.proofs.messages.find_apart.Given as goal

-- the first and the last among the calls so far
abbrev pub invariant-loop-call : goal.invariant-loop-call
invariant-loop-call l = AreFarTo l.calls (λ j. are_apart (call_span l.calls l.caller) (call_span l.calls j)) l.below l.call-index l.far
