-- What the words of a judged book tell of names and tasks: statements that laws prove.
use Rattle.std.specs.Prelude.{◌≡◌, ◌≢◌, ◌↔◌, ℕ, List, Some, slice_get}
use Rattle.std.specs.declared.cmp.Ordering.TheVariants.{Less}
use Rattle.model_meet.specs.RelationBits.{HasExclusion, HasOrder, HasPipe, KeepsExclusion}
use Rattle.segment_names.specs.Known.{Known, with_traces}
use Rattle.segment_names.specs.Limits.{IsKept}
use Rattle.session_rules.specs.GivenDigests.{SurvivesUnder, known_under}
use Rattle.session_rules.specs.KeptTraces.{Kept}
use Rattle.session_rules.specs.TraceTexts.{IsGraphOf}
use Rattle.trace_rules.specs.TraceGraphs.{IsTraceGraph}
use Rattle.trace_types.specs.NameOrder.{name_cmp}
use Rattle.trace_types.specs.Parts.{by_number}
use Rattle.trace_types.specs.Segments.{SegmentName}
use Rattle.trace_types.specs.declared.named_trace.NamedTrace.{NamedTrace}
use Rattle.trace_types.specs.declared.trace.Trace.{Trace}
use Rattle.weighted_dag.specs.Graphs.{Graph, IsGraph}
use Rattle.digest_facts.specs.Digests.{Digest}
use Rattle.digest_facts.specs.Facts.{IsOrdered, IsPiped, IsUnordered}
use Rattle.book_laws.specs.Shown.{IsShown}
use Rattle.judged_books.specs.GivenDigests.{BeginsWith}
use Rattle.judged_books.specs.JudgedBooks.{JudgedState, IsJudgedOf}

-- of names and tasks of a catalogue the bits of words tell what the given digest and the kept traces
-- refute: which mutual exclusions survive both, which orders, exclusions with no fixed order and
-- pipelines the model lists
pub record AreJudgedWords (known : Known) (given : Digest SegmentName (List ℕ)) (kept : List Kept)
    (words : List ℕ) : Type 0 where
  pub excludes : (m n : ℕ) (a b : SegmentName) → m ≢ n → slice_get known.names m ≡ Some a
      → slice_get known.names n ≡ Some b → KeepsExclusion words m n ↔ SurvivesUnder given kept a b
  pub ordered : (m n : ℕ) (a b : SegmentName) → slice_get known.names m ≡ Some a
      → slice_get known.names n ≡ Some b
      → HasOrder words m n ↔ IsOrdered (known_under given kept) a b
  pub unordered : (m n : ℕ) (a b : SegmentName) → slice_get known.names m ≡ Some a
      → slice_get known.names n ≡ Some b → name_cmp a b ≡ Less
      → HasExclusion words m n ↔ IsUnordered (known_under given kept) name_cmp a b
  pub piped : (t u : ℕ) (v w : List ℕ) → slice_get known.tasks t ≡ Some v
      → slice_get known.tasks u ≡ Some w
      → HasPipe words t u ↔ IsPiped (known_under given kept) v w

-- the words of a judged book tell what its given digest and its kept traces refute
abbrev pub JudgedWordsTell : Type 0
JudgedWordsTell = (j : JudgedState) (given : Digest SegmentName (List ℕ)) (kept : List Kept)
    → IsJudgedOf j given kept → AreJudgedWords j.book.known given kept j.words

-- the graph of a trace by such words is the graph of the kept trace that it shows, by the mutual
-- exclusions that survive both
abbrev pub JudgedGraphIsShown : Type 0
JudgedGraphIsShown = (known : Known) (given : Digest SegmentName (List ℕ)) (kept : List Kept)
    (words : List ℕ) (named : NamedTrace) (k : Kept) (order : List ℕ) (g : Graph) → IsKept known
    → AreJudgedWords known given kept words → IsShown known named k → IsGraph g
    → IsTraceGraph by_number (KeepsExclusion words) named order g
    → IsGraphOf (SurvivesUnder given kept) k order g

-- a catalogue that begins with a digest's names and tasks still does after more traces
abbrev pub GrownBeginsAlike : Type 0
GrownBeginsAlike = (given : Digest SegmentName (List ℕ)) (known : Known) (more : List Trace)
    → IsKept known → BeginsWith given known → BeginsWith given (with_traces known more)
