-- What one trace refutes of two segment names A and B. One counterexample is enough.
use Rattle.std.specs.Prelude.{◌≡◌, pos, ◌+ℤ◌, ◌<ℤ◌}
use Rattle.std.specs.List.{Contains}
use Rattle.trace_types.specs.Parts.{Parts}

module _ {A S N T E : Type 0} (p : Parts A S N T E) where
  -- the trace has a segment named A and one named B, and R holds of the two
  abbrev pub HasBoth : N → N → (S → S → Type 0) → A → Type 0
  HasBoth a b R trace = (s : S) × (t : S) × Contains (p.segments trace) s
      × Contains (p.segments trace) t × (p.name s ≡ a) × (p.name t ≡ b) × R s t

  -- t starts before s ends, by more than the trace's grace
  abbrev pub StartsEarly : A → S → S → Type 0
  StartsEarly trace t s = (p.start t +ℤ pos (p.grace trace)) <ℤ p.end s

  -- it refutes that A happens before B: B starts before A ends, by more than the grace
  abbrev pub RefutesBefore : N → N → A → Type 0
  RefutesBefore a b trace = HasBoth a b (λ s t. StartsEarly trace t s) trace

  -- it refutes that A and B are mutually exclusive: each starts before the other ends, by more than
  -- the grace
  abbrev pub RefutesExclusive : N → N → A → Type 0
  RefutesExclusive a b trace =
      HasBoth a b (λ s t. StartsEarly trace s t × StartsEarly trace t s) trace

  -- it refutes that A and B are apart, in no trace together: it has both
  abbrev pub RefutesApart : N → N → A → Type 0
  RefutesApart a b trace = HasBoth a b (λ s t. Unit {0}) trace
