-- Of two segments between which an edge leads one ends before the other starts.
use Rattle.std.proofs.Common.{ℕ, pos, ◌+ℤ◌, List, Contains, refl, inl, inr, subst, sym}
use Rattle.std.proofs.lemmas.Int.{by_lt_z}
use Rattle.trace_types.specs.Parts.{Parts}
use Rattle.trace_types.specs.Refuting.{RefutesExclusive, StartsEarly}
use Rattle.trace_rules.specs.TraceGraphs.{ExcludesIn, IsDependency}
use Rattle.trace_types.proofs.ElementLemmas.{Contains-from_get}
use Rattle.trace_graph.specs.GraphLaws.{DoNotOverlap}

module _ {A S N T E : Type 0} (p : Parts A S N T E) (traces : List A) (trace : A) (i j : ℕ) where
  pub edges_do_not_overlap : Contains traces trace → (edge : IsDependency p (ExcludesIn p traces) trace i j) → DoNotOverlap p trace edge.s edge.t
  edges_do_not_overlap (k, lt, is) edge = by_lt_z (p.start edge.s +ℤ pos (p.grace trace)) (p.end edge.t)
      (λ (one : StartsEarly p trace edge.s edge.t). by_lt_z (p.start edge.t +ℤ pos (p.grace trace)) (p.end edge.s)
      (λ (other : StartsEarly p trace edge.t edge.s). absurd (edge.excludes k trace lt
      (subst (RefutesExclusive p (p.name edge.s) (p.name edge.t)) (sym is)
      (edge.s, edge.t, Contains-from_get (p.segments trace) i edge.s edge.first, Contains-from_get (p.segments trace) j edge.t edge.second, refl, refl, (one, other)))))
      inl)
      inr
