-- What is printed of the kept traces that a book and a catalogue show.
use Rattle.std.specs.Prelude.{◌≡◌, ℕ, ◌<◌, List, ◌∷◌, length, map, Option, Result}
use Rattle.digest_facts.specs.Digests.{Digest}
use Rattle.judged_books.specs.JudgedBooks.{IsJudgedOf, JudgedState}
use Rattle.segment_names.specs.Known.{Known}
use Rattle.session_rules.specs.KeptTraces.{Kept}
use Rattle.session_rules.specs.Parts.{Header, IsPart, Part}
use Rattle.session_rules.specs.TraceTexts.{name_of_vertex}
use Rattle.book_laws.specs.Shown.{AreShown, IsShown}
use Rattle.text_rows.specs.TextsOfParts.{AreTexts, PrintsTexts}
use Rattle.text_rows.specs.declared.print_fault.PrintFault.{PrintFault}
use Rattle.trace_types.specs.declared.named_trace.NamedTrace.{NamedTrace}
use Rattle.trace_types.specs.Segments.{SegmentName}
use Rattle.trace_rows.specs.inner.NumberedTraces.{IsNumbered, NumberedTrace, vertex_name}

-- the names of the vertices of a trace's graph are those of the kept trace
abbrev pub NamesAreShown : Type 0
NamesAreShown = (known : Known) (k : Kept) (n : NumberedTrace) (v : ℕ) → n.names ≡ known.names
    → IsNumbered n → IsShown known n.trace k → v < length n.order
    → vertex_name n v ≡ name_of_vertex k n.order v

-- the part of one of the kept traces, under a given digest
abbrev pub TracePart : Type 0
TracePart = Digest SegmentName (List ℕ) → List Kept → Kept → Part

-- a call printed the parts of these traces of the book, or a fault stopped it at a prefix, whatever
-- digest is given and whatever kept traces are shown
abbrev pub PrintsShown : {S T : Type 0} → (S → Option (List ℕ)) → (S → ℕ) → Result T PrintFault
    → S → S → JudgedState → TracePart → List NamedTrace → List ℕ → List ℕ → Type 0
PrintsShown written faults result old new b part traces held holds =
    (given : Digest SegmentName (List ℕ)) (kept : List Kept) → IsJudgedOf b given kept
    → (some : List Kept) → AreShown b.book.known traces some
    → PrintsTexts written faults result old new IsPart (map (part given kept) some) held holds

-- the bytes are a text of the parts of these traces of the book, likewise
abbrev pub IsShownText : JudgedState → TracePart → List NamedTrace → List ℕ → Type 0
IsShownText b part traces text =
    (given : Digest SegmentName (List ℕ)) (kept : List Kept) → IsJudgedOf b given kept
    → (some : List Kept) → AreShown b.book.known traces some
    → AreTexts IsPart (map (part given kept) some) text

-- a call printed a header of this word and the parts of all traces of the book, likewise
abbrev pub PrintsWhole : {S T : Type 0} → (S → Option (List ℕ)) → (S → ℕ) → Result T PrintFault
    → S → S → JudgedState → List ℕ → TracePart → List ℕ → List ℕ → Type 0
PrintsWhole written faults result old new b word part held holds =
    (given : Digest SegmentName (List ℕ)) (kept : List Kept) → IsJudgedOf b given kept
    → PrintsTexts written faults result old new IsPart
    (Header word (length kept) ∷ map (part given kept) kept) held holds
