-- Segments whose names, tasks and elements are numbered.
use Rattle.std.specs.Prelude.{◌≡◌, ℕ, ◌<◌, nat_eq, Option, Some, None, List, length, slice_get}
use Rattle.std.specs.Prelude.{slice_index_or, ⊤}
use Rattle.std.specs.List.{filter_map}
use Rattle.trace_types.specs.declared.named_segment.NamedSegment.{NamedSegment}
use Rattle.trace_types.specs.declared.segment.Segment.{Segment}
use Rattle.trace_types.specs.Firsts.{firsts_of}
use Rattle.trace_types.specs.NamedSegments.{number_of_element}
use Rattle.trace_types.specs.Segments.{name_of}
use Rattle.segment_names.specs.declared.unnamed.Unnamed.{Unnamed}
use Rattle.segment_names.specs.declared.unnamed.Unnamed.TheVariants.{Memory, Unknown}
use Rattle.segment_names.specs.Known.{Known}
use Rattle.segment_names.specs.Limits.{IsKept}
use Rattle.segment_names.specs.Naming.{IsFirstUnknown}
use Rattle.event_table.specs.Texts.{AreDifferent}

-- both are None, or the text stands at this index
abbrev pub IsElementAt : List (List ℕ) → Option ℕ → Option (List ℕ) → Type 0
IsElementAt texts None None = ⊤
IsElementAt texts None (Some text) = ⊥
IsElementAt texts (Some number) None = ⊥
IsElementAt texts (Some number) (Some text) = slice_get texts number ≡ Some text

-- the segment under the numbers of a catalogue and of the elements
pub record IsNumbered (known : Known) (elements : List (List ℕ)) (named : NamedSegment)
    (segment : Segment) : Type 0 where
  pub name : slice_get known.names named.name ≡ Some (name_of segment)
  pub task : slice_get known.tasks named.task ≡ Some segment.task
  pub element : IsElementAt elements named.element segment.element
  pub start : named.start ≡ segment.start
  pub end : named.end ≡ segment.end

-- the numbers are 0, 1, 2 and so on, this many
pub record CountsUp (numbers : List ℕ) (n : ℕ) : Type 0 where
  pub count : length numbers ≡ n
  pub each : (k : ℕ) → k < n → slice_index_or numbers k 0 ≡ k

-- the segments so far are numbered
pub record NumbersFirst (known : Known) (elements : List (List ℕ)) (segments : List Segment)
    (n : ℕ) (named : List NamedSegment) : Type 0 where
  pub long : length named ≡ n
  pub each : (k : ℕ) (d : NamedSegment) (e : Segment) → k < n
      → IsNumbered known elements (slice_index_or named k d) (slice_index_or segments k e)
  pub differ : AreDifferent elements
  pub counted : CountsUp (firsts_of nat_eq (filter_map number_of_element named)) (length elements)

-- all segments are numbered
pub record AreNumbered (known : Known) (segments : List Segment)
    (named : List NamedSegment) : Type 0 where
  pub elements : List (List ℕ)
  pub numbers : NumbersFirst known elements segments (length segments) named
  pub kept : IsKept known

-- out of memory, or this segment is the first that is not known
abbrev pub IsCause : Known → List Segment → Unnamed → Type 0
IsCause known segments Memory = Unit {0}
IsCause known segments (Unknown segment) = IsFirstUnknown known segments segment
