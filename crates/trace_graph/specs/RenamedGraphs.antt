-- Graphs of one trace under two readings.
use Rattle.std.specs.Prelude.{ℕ, List}
use Rattle.trace_rules.specs.TraceGraphs.{ExcludesIn, IsTraceGraph}
use Rattle.trace_types.specs.Parts.{Parts}
use Rattle.trace_types.specs.Renaming.{AreRenamed, IsOneToOne, IsTraceRenamed}
use Rattle.weighted_dag.specs.Graphs.{Graph}

-- where names and tasks are matched one to one, a graph of a trace by what survives in a list of
-- traces is one of the renamed trace by what survives in the renamed traces
abbrev pub RenamedGraphIsTheSame : {A S N T E B X M U F : Type 0} → Parts A S N T E
    → Parts B X M U F → Type 0
RenamedGraphIsTheSame {A} {S} {N} {T} {E} {B} {X} {M} {U} {F} p q =
    (names : List (N × M)) (tasks : List (T × U)) (traces : List A) (others : List B) (trace : A)
    (other : B) (order : List ℕ) (g : Graph) → IsOneToOne names → IsOneToOne tasks
    → AreRenamed p q names tasks traces others → IsTraceRenamed p q names tasks trace other
    → IsTraceGraph p (ExcludesIn p traces) trace order g
    → IsTraceGraph q (ExcludesIn q others) other order g
