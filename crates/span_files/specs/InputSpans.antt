-- The spans of the files of an input.
use Rattle.std.specs.Prelude.{ℕ, ◌≡◌, ◌+◌, List, [], ◌∷◌, ◌++◌, map, Result, Ok, Err}
use Rattle.span_types.specs.declared.span.Span.{Span}
use Rattle.span_text.specs.declared.placed.Fault.{Fault}
use Rattle.span_text.specs.declared.placed.Placed.{Placed}
use Rattle.span_files.specs.SpansOfForms.{spans_by}
use Rattle.span_files.specs.declared.span_form.SpanForm.{SpanForm}
use Rattle.span_files.specs.declared.span_place.SpanPlace.{SpanPlace}
use Rattle.span_files.specs.declared.file_spans.FileSpans.{FileSpans}

-- the span of a place, and where it stands in an input, given the index of its file
abbrev pub span_of : Placed → Span
span_of p = p.span

abbrev pub place_in : ℕ → Placed → SpanPlace
place_in file p = record { file = file; place = p.place }

-- the spans of a file with this index came behind those before
pub record IsAppended (file : ℕ) (more : List Placed) (old new : FileSpans) : Type 0 where
  pub spans : new.spans.items ≡ old.spans.items ++ map span_of more
  pub places : new.places.items ≡ old.places.items ++ map (place_in file) more

-- the spans of an input, and where each stands
pub record InputSpans : Type 0 where
  pub spans : List Span
  pub places : List SpanPlace

-- a file that is bad: its index, from 0, and its first fault
pub record FileFault : Type 0 where
  pub file : ℕ
  pub fault : Fault

-- what the file with this index and then those after it say
abbrev pub said_after : ℕ → Result (List Placed) Fault → Result InputSpans FileFault
    → Result InputSpans FileFault
said_after file (Ok first) (Ok others) = Ok (record {
  spans = map span_of first ++ others.spans;
  places = map (place_in file) first ++ others.places;
})
said_after file (Ok first) (Err fault) = Err fault
said_after file (Err fault) others = Err (record { file = file; fault = fault })

-- what files in this form say, of which the first has this index
abbrev pub said_from : SpanForm → ℕ → List (List ℕ) → Result InputSpans FileFault
said_from form file [] = Ok (record { spans = []; places = [] })
said_from form file (bytes ∷ later) =
    said_after file (spans_by form bytes) (said_from form (file + 1) later)

-- the spans of files, each file read by itself, or the first fault of the first bad file
abbrev pub input_said : SpanForm → List (List ℕ) → Result InputSpans FileFault
input_said form inputs = said_from form 0 inputs
