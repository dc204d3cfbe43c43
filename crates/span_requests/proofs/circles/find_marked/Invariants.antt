use Rattle.std.proofs.Common.{◌≡◌, ℕ, ◌<◌, ◌≤◌, false, get_or}
use Rattle.span_requests.specs.inner.Circles.{HaveEnds, leads_to_circle}
use Rattle.span_requests.proofs.circles.find_marked.Given as goal

-- from none of the spans so far callers lead into a circle
abbrev pub invariant-loop-index : goal.invariant-loop-index
invariant-loop-index l = record {
  ends : HaveEnds l.callers l.marks;
  few : (k : ℕ) → get_or l.marks k 0 ≤ l.index;
  none : (k d : ℕ) → k < l.index → leads_to_circle l.callers (get_or l.numbers k d) ≡ false;
}
