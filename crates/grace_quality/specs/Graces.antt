-- The grace under which a gap refutes nothing. Gaps are in nanoseconds, a grace in microseconds. This
-- is the project's own.
use Rattle.std.specs.Prelude.{ℕ, ◌≡◌, ◌*◌, ◌<◌, ℤ, pos, neg_ℤ, int_lt, Bool, true, false}
use Rattle.trace_types.specs.Parts.{Parts}

-- the gap is negative by more than so many microseconds
abbrev pub refutes_under : ℕ → ℤ → Bool
refutes_under micros gap = int_lt gap (neg_ℤ (pos (1000 * micros)))

-- it refutes under each lower grace, and not under this one
pub record IsLeastGrace (gap : ℤ) (micros : ℕ) : Type 0 where
  pub survives : refutes_under micros gap ≡ false
  pub least : (lower : ℕ) → lower < micros → refutes_under lower gap ≡ true

-- traces read with this grace, in nanoseconds, in place of each trace's own
abbrev pub under_grace : {A S N T E : Type 0} → ℕ → Parts A S N T E → Parts A S N T E
under_grace grace p = record {
  segments = p.segments;
  grace = λ trace. grace;
  name = p.name;
  task = p.task;
  element = p.element;
  start = p.start;
  end = p.end;
}
