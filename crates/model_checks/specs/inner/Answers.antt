-- What the answers of this crate's passes over the traces say.
use Rattle.std.specs.Prelude.{◌≡◌, ◌↔◌, ℕ, ◌<◌, List, length, get_or, IsTrue}
use Rattle.trace_types.specs.declared.trace.Trace.{Trace}
use Rattle.trace_types.specs.Parts.{by_text}
use Rattle.trace_types.specs.Refuting.{RefutesBefore, RefutesExclusive, RefutesApart}
use Rattle.trace_types.specs.Segments.{SegmentName}
use Rattle.trace_types.specs.Surviving.{IsRefuted}
use Rattle.model_checks.specs.declared.refuted.Refuted.{Refuted}

-- the answer says which relations of two names one trace refutes
pub record IsTraceAnswer (trace : Trace) (a b : SegmentName) (answer : Refuted) : Type 0 where
  pub apart : IsTrue answer.apart ↔ RefutesApart by_text a b trace
  pub before : IsTrue answer.before ↔ RefutesBefore by_text a b trace
  pub after : IsTrue answer.after ↔ RefutesBefore by_text b a trace
  pub exclusive : IsTrue answer.exclusive ↔ RefutesExclusive by_text a b trace

-- the answer says which relations of two names the traces refute
pub record IsAnswer (traces : List Trace) (a b : SegmentName) (answer : Refuted) : Type 0 where
  pub apart : IsTrue answer.apart ↔ IsRefuted (RefutesApart by_text a b) traces
  pub before : IsTrue answer.before ↔ IsRefuted (RefutesBefore by_text a b) traces
  pub after : IsTrue answer.after ↔ IsRefuted (RefutesBefore by_text b a) traces
  pub exclusive : IsTrue answer.exclusive ↔ IsRefuted (RefutesExclusive by_text a b) traces

-- the row has for each of the names, by index, the answer on the first name and this one
pub record AreAnswers (traces : List Trace) (first : SegmentName) (names : List SegmentName)
    (row : List Refuted) : Type 0 where
  pub each : length row ≡ length names
  pub answers : (i : ℕ) (name : SegmentName) (answer : Refuted) → i < length names
      → IsAnswer traces first (get_or names i name) (get_or row i answer)
