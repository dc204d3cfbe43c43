-- A trace by numbers and the kept trace that it shows.
use Rattle.std.proofs.Common.{◌≡◌, ℕ, ◌<◌, List, [], length, slice_get, slice_index, Some, Contains, ◌↔◌, sym, ◌∙◌, ap}
use Rattle.std.specs.List.{enumerate_from}
use Rattle.std.specs.Option.{option_map_or, unwrap_or}
use Rattle.book_laws.specs.Shown.{IsShown}
use Rattle.segment_names.specs.Known.{Known}
use Rattle.session_rules.specs.KeptTraces.{Kept, by_kept}
use Rattle.session_rules.specs.TraceTexts.{name_of_vertex}
use Rattle.trace_types.proofs.ZipLemmas.{zip_at}
use Rattle.trace_rows.specs.inner.NumberedTraces.{IsNumbered, NumberedTrace, name_of_number, vertex_name}
use Rattle.trace_types.specs.Parts.{by_number}
use Rattle.trace_types.specs.Renaming.{IsSegmentRenamed}
use Rattle.trace_types.specs.Segments.{SegmentName, name_of}
use Rattle.trace_types.specs.declared.named_segment.NamedSegment.{NamedSegment}
use Rattle.trace_types.specs.declared.segment.Segment.{Segment}

-- the name of a segment by its number is the name of the segment that it shows
name_by_number : (names : List SegmentName) (s : NamedSegment) (x : Segment) → ((i : ℕ) (name : SegmentName) → Contains (enumerate_from 0 names) (i, name) ↔ (slice_get names i ≡ Some name))
    → Contains (enumerate_from 0 names) (s.name, name_of x) → name_of_number names s ≡ name_of x
name_by_number names s x matched has = ap (λ o. unwrap_or o ([], [], [])) ((matched s.name (name_of x)).0 has)

-- the name of a vertex
pub same_name : (known : Known) (k : Kept) (n : NumberedTrace) (v : ℕ) → ((i : ℕ) (name : SegmentName) → Contains (enumerate_from 0 known.names) (i, name) ↔ (slice_get known.names i ≡ Some name))
    → n.names ≡ known.names → IsNumbered n → IsShown known n.trace k → v < length n.order → vertex_name n v ≡ name_of_vertex k n.order v
same_name known k n v matched names numbered shown lt =
    let at = zip_at (IsSegmentRenamed by_number by_kept (enumerate_from 0 known.names) (enumerate_from 0 known.tasks) shown.renamed.elements) n.trace.segments k.trace.segments (slice_index n.order v) shown.renamed.segments (numbered.placed v 0 lt) in
    ap (λ o. option_map_or (name_of_number n.names) o ([], [], [])) at.2
    ∙ (ap (λ ns. name_of_number ns at.0) names ∙ (name_by_number known.names at.0 at.1 matched at.4.name ∙ sym (ap (λ o. option_map_or name_of o ([], [], [])) at.3)))
