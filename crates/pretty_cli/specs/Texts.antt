-- The rows of a text, and what is printed of each.
use Rattle.std.specs.Prelude.{ℕ, ◌≡◌, ◌++◌, ◌∷◌, [], List, Option, IsPermutation, ◌⊎◌}
use Rattle.std.specs.List.Sorted.{IsSortedByKey}
use Rattle.std.specs.Str.Lines.{lines}
use Rattle.std.specs.Io.KnownBytes.{append_known}
use Rattle.text_rows.specs.Rows.{row_of}
use Rattle.text_rows.specs.TextsOfParts.{AreTexts, PrintsPrefix}
use Rattle.pretty_cli.specs.declared.context.Context.{Context}
use Rattle.pretty_cli.specs.declared.context.Kind.{Kind}
use Rattle.pretty_cli.specs.declared.context.Kind.TheVariants as kinds
use Rattle.pretty_cli.specs.declared.context.View.{View}
use Rattle.pretty_cli.specs.declared.context.View.TheVariants as views
use Rattle.pretty_cli.specs.declared.row.Row.{Row}
use Rattle.pretty_cli.specs.Contexts.{context_after, start}
use Rattle.pretty_cli.specs.Fields.{line_fields}
use Rattle.pretty_cli.specs.Lines.{IsLine}
use Rattle.pretty_cli.specs.Orders.{place_cmp, place_of}
use Rattle.pretty_cli.specs.Shown.{IsLabel, cells_of}
use Rattle.pretty_cli.specs.Titles.{IsTitleLine, titled_view}

-- the row of a line below this context
pub record IsRowOf (before : Context) (line : List ℕ) (row : Row) : Type 0 where
  pub same : row.line.now ≡ line
  pub context : row.context ≡ context_after before (line_fields line)
  pub place : row.place ≡ place_of row.context (line_fields line)

-- the rows of lines below this context: one for each, in their order
abbrev pub AreRowsBelow : Context → List (List ℕ) → List Row → Type 0
AreRowsBelow before [] rows = rows ≡ []
AreRowsBelow before (line ∷ lines) rows = (row : Row) × (rest : List Row) × IsRowOf before line row
    × AreRowsBelow row.context lines rest × (rows ≡ row ∷ rest)

-- the rows of a text's lines
abbrev pub AreRowsOf : List (List ℕ) → List Row → Type 0
AreRowsOf lines rows = AreRowsBelow start lines rows

-- the line of a row of a view: its columns and its label
abbrev pub IsShownLine : ℕ → Context → List (List ℕ) → List ℕ → Type 0
IsShownLine limit c fields line = (label : List ℕ) × IsLabel c c.kind fields label
    × IsLine limit (cells_of c c.kind fields) label line

-- a text with the titles of this view below it
abbrev pub IsWithTitles : ℕ → View → List ℕ → List ℕ → Type 0
IsWithTitles limit views.Other before now = now ≡ before
IsWithTitles limit view before now = (titles : List ℕ) × IsTitleLine limit view titles
    × (now ≡ before ++ 10 ∷ titles)

-- a text with the titles that stand below a row
abbrev pub AddsTitles : ℕ → Context → List ℕ → List ℕ → Type 0
AddsTitles limit c before now = IsWithTitles limit (titled_view c.view c.kind) before now

-- the text of a row of a view: its line, and the titles below it
abbrev pub IsShownText : ℕ → Row → List ℕ → Type 0
IsShownText limit row text = (line : List ℕ)
    × IsShownLine limit row.context (line_fields row.line.now) line
    × AddsTitles limit row.context line text

-- what a row is printed as, by its kind: a row of another kind as it is
abbrev pub IsTextOfKind : Kind → ℕ → Row → List ℕ → Type 0
IsTextOfKind kinds.Other limit row text = text ≡ row.line.now
IsTextOfKind _ limit row text = IsShownText limit row text

-- what a row is printed as
abbrev pub IsRowText : ℕ → Row → List ℕ → Type 0
IsRowText limit row text = IsTextOfKind row.context.kind limit row text

-- the bytes are what a row is printed as, and a line feed
abbrev pub IsPrintedRow : ℕ → Row → List ℕ → Type 0
IsPrintedRow limit row bytes = (text : List ℕ) × IsRowText limit row text × (bytes ≡ row_of (text ∷ []))

-- rows in the order of their places
abbrev pub AreInOrder : List Row → Type 0
AreInOrder rows = IsSortedByKey (λ row. row.place) place_cmp rows

-- the rows of a text, each once, in the order of their places
pub record AreArranged (text : List ℕ) (printed : List Row) : Type 0 where
  pub rows : List Row
  pub are_rows : AreRowsOf (lines text) rows
  pub once : IsPermutation rows printed
  pub in_order : AreInOrder printed

-- these rows were printed
pub record PrintsRows (limit : ℕ) (rows : List Row) (before now : Option (List ℕ)) : Type 0 where
  pub bytes : List ℕ
  pub told : AreTexts (IsPrintedRow limit) rows bytes
  pub written : now ≡ append_known before bytes

-- a text was printed whole: each row of its lines once, in the order of their places
pub record PrintsPretty (limit : ℕ) (text : List ℕ) (before now : Option (List ℕ)) : Type 0 where
  pub printed : List Row
  pub arranged : AreArranged text printed
  pub rows : PrintsRows limit printed before now

-- nothing was printed of a text, or whole rows of it and then a prefix of one
abbrev pub PrintsPrettyPrefix : ℕ → List ℕ → Option (List ℕ) → Option (List ℕ) → Type 0
PrintsPrettyPrefix limit text before now = (now ≡ before)
    ⊎ ((printed : List Row) × AreArranged text printed
    × PrintsPrefix (IsPrintedRow limit) printed before now [])
