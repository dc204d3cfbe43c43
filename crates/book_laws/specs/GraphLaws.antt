-- The graph of a trace by numbers is that of the kept trace that it shows: a statement that a law
-- proves.
use Rattle.std.specs.Prelude.{ℕ, List}
use Rattle.segment_names.specs.Known.{Known}
use Rattle.segment_names.specs.Limits.{IsKept}
use Rattle.session_rules.specs.KeptTraces.{Kept, SurvivesIn}
use Rattle.session_rules.specs.TraceTexts.{IsGraphOf}
use Rattle.trace_rules.specs.TraceGraphs.{ExcludesIn, IsTraceGraph}
use Rattle.trace_types.specs.declared.named_trace.NamedTrace.{NamedTrace}
use Rattle.trace_types.specs.Parts.{by_number}
use Rattle.weighted_dag.specs.Graphs.{Graph, IsGraph}
use Rattle.book_laws.specs.Shown.{AreShown, IsShown}

-- the graph of a trace by numbers, by what survives in the traces that show the kept ones, is the
-- graph of the kept trace by what survives in these
abbrev pub GraphIsShown : Type 0
GraphIsShown = (known : Known) (traces : List NamedTrace) (kept : List Kept) (named : NamedTrace)
    (k : Kept) (order : List ℕ) (g : Graph) → IsKept known → AreShown known traces kept
    → IsShown known named k → IsGraph g
    → IsTraceGraph by_number (ExcludesIn by_number traces) named order g
    → IsGraphOf (SurvivesIn kept) k order g
