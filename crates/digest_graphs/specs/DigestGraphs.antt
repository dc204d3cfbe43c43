-- The graph of a trace under the digest of past traces and traces at hand.
use Rattle.std.specs.Prelude.{◌↔◌, ℕ, List, ◌++◌}
use Rattle.std.specs.declared.cmp.Ordering.{Ordering}
use Rattle.trace_types.specs.Parts.{Parts}
use Rattle.trace_types.specs.SegmentLists.{NamesDiffer}
use Rattle.trace_rules.specs.TraceGraphs.{ExcludesIn, IsTraceGraph}
use Rattle.weighted_dag.specs.Graphs.{Graph}
use Rattle.digest_facts.specs.DigestLaws.{known_by}
use Rattle.digest_facts.specs.Digests.{Digest}
use Rattle.digest_facts.specs.DigestsOfTraces.{IsDigestOf}

module _ {A S N T E : Type 0} (p : Parts A S N T E) where
  -- the mutual exclusions that survive what a digest and the traces at hand refute
  abbrev pub ExcludesUnder : (A → ℕ) → (N → N → Ordering) → (T → T → Ordering) → Digest N T
      → List A → N → N → Type 0
  ExcludesUnder day by_name by_task s kept a b =
      (known_by p day by_name by_task s kept).exclusive a b → ⊥

  -- with a digest of past traces and traces at hand the graph of a trace, whose names differ, is
  -- its graph under all traces
  abbrev pub GraphsAreThoseOfAll : Type 0
  GraphsAreThoseOfAll = (day : A → ℕ) (by_name : N → N → Ordering) (by_task : T → T → Ordering)
      (past kept : List A) (s : Digest N T) (trace : A) (order : List ℕ) (g : Graph)
      → IsDigestOf p day by_name by_task past s → NamesDiffer p.name (p.segments trace)
      → IsTraceGraph p (ExcludesUnder day by_name by_task s kept) trace order g
      ↔ IsTraceGraph p (ExcludesIn p (past ++ kept)) trace order g
