use Rattle.std.proofs.Common.{◌≡◌, ◌<◌, ℕ, None, false, get_or}
use Rattle.std.specs.Prelude.{is_none}
use Rattle.context_forks.specs.Forks.{callers_of}
use Rattle.span_lines.proofs.requests.find_end.Given as goal

-- no request begins behind the call so far
abbrev pub invariant-loop-at : goal.invariant-loop-at
invariant-loop-at l = (k : ℕ) → l.call < k → k < l.at → is_none (get_or (callers_of l.calls) k None) ≡ false
