-- Which relation two names A and B have in a list of traces, each with its own grace (M. Chow et
-- al., "The Mystery Machine: End-to-end Performance Analysis of Large-scale Internet Services",
-- OSDI 2014, section 3.2; the grace is this project's own).
use Rattle.std.specs.Prelude.{◌≡◌, ◌≢◌, List}
use Rattle.std.specs.declared.cmp.Ordering.{Ordering}
use Rattle.std.specs.declared.cmp.Ordering.TheVariants.{Less}
use Rattle.trace_types.specs.Parts.{Parts}
use Rattle.trace_types.specs.Refuting.{RefutesBefore, RefutesExclusive, RefutesApart}
use Rattle.trace_types.specs.Surviving.{Survives, IsRefuted}

module _ {A S N T E : Type 0} (p : Parts A S N T E) where
  -- A happens before B: they are two names, some trace has both, and no trace refutes it
  pub record HappensBefore (traces : List A) (a b : N) : Type 0 where
    pub differ : a ≢ b
    pub together : IsRefuted (RefutesApart p a b) traces
    pub survives : Survives (RefutesBefore p a b) traces

  -- A and B, in name order, are mutually exclusive with no fixed order: some trace has both, none
  -- refutes that they are mutually exclusive, and each order is refuted
  pub record ExcludesUnordered (cmp : N → N → Ordering) (traces : List A) (a b : N) : Type 0 where
    pub rises : cmp a b ≡ Less
    pub together : IsRefuted (RefutesApart p a b) traces
    pub survives : Survives (RefutesExclusive p a b) traces
    pub not_before : IsRefuted (RefutesBefore p a b) traces
    pub not_after : IsRefuted (RefutesBefore p b a) traces
