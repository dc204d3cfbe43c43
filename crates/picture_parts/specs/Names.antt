-- How the name of a segment stands in a page.
use Rattle.std.specs.Prelude.{ℕ, [], ◌∷◌, ◌++◌, ◌&&◌, List, Bool, bytes_eq, codes}
use Rattle.markup.specs.Parts.{Fixed, Name, parts_text}
use Rattle.trace_types.specs.Segments.{SegmentName}

-- an arrow to the right, in UTF-8
abbrev pub arrow : List ℕ
arrow = 226 ∷ 134 ∷ 146 ∷ []

-- the name in a table: its task, and its events
unfoldable pub label_text : SegmentName → List ℕ
label_text name = parts_text
    (Fixed (codes "<b><bdi>") ∷ Name name.0 ∷ Fixed (codes "</bdi></b> <span class=\"ev\"><bdi>")
    ∷ Name name.1 ∷ Fixed (codes "</bdi> " ++ arrow ++ codes " <bdi>") ∷ Name name.2
    ∷ Fixed (codes "</bdi></span>") ∷ [])

-- signs, in UTF-8, between which a text keeps its direction to itself
abbrev pub isolate_start : List ℕ
isolate_start = 226 ∷ 129 ∷ 168 ∷ []

abbrev pub isolate_end : List ℕ
isolate_end = 226 ∷ 129 ∷ 169 ∷ []

-- the name in a title, where no element can stand: each text keeps its direction to itself
unfoldable pub title_text : SegmentName → List ℕ
title_text name = parts_text
    (Fixed isolate_start ∷ Name name.0 ∷ Fixed (isolate_end ++ codes ": " ++ isolate_start)
    ∷ Name name.1 ∷ Fixed (isolate_end ++ codes " " ++ arrow ++ codes " " ++ isolate_start)
    ∷ Name name.2 ∷ Fixed isolate_end ∷ [])

-- a text in a title
unfoldable pub isolated_text : List ℕ → List ℕ
isolated_text text = parts_text (Fixed isolate_start ∷ Name text ∷ Fixed isolate_end ∷ [])

-- two names are equal, text by text
abbrev pub same_name : SegmentName → SegmentName → Bool
same_name a b = bytes_eq a.0 b.0 && bytes_eq a.1 b.1 && bytes_eq a.2 b.2
