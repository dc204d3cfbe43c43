-- The text of a digest's table, where names and tasks are texts.
use Rattle.std.specs.Prelude.{◌≡◌, ℕ, ◌^◌, ◌<◌, ◌==◌, false, List, [], ◌∷◌, ◌++◌, length, map, All}
use Rattle.std.specs.Prelude.{codes, decimal}
use Rattle.std.specs.Cmp.Lexicographic.{slice_cmp}
use Rattle.std.specs.List.{flat_map}
use Rattle.std.specs.Ordering.{nat_cmp}
use Rattle.text_rows.specs.Rows.{figure, row_of}
use Rattle.trace_types.specs.NameOrder.{name_cmp}
use Rattle.trace_types.specs.Segments.{SegmentName}
use Rattle.digest_facts.specs.Coherence.{IsCoherent}
use Rattle.digest_facts.specs.Digests.{Digest}
use Rattle.digest_facts.specs.Tables.{Table, table_of}

-- `summary`, and how many traces, days, tasks and names there are
abbrev pub header_fields : Table SegmentName (List ℕ) → List (List ℕ)
header_fields u =
    codes "summary" ∷ figure (codes "traces") u.traces ∷ figure (codes "days") (length u.days)
    ∷ figure (codes "tasks") (length u.tasks) ∷ figure (codes "names") (length u.names) ∷ []

-- `day` and a day
abbrev pub day_fields : ℕ → List (List ℕ)
day_fields day = codes "day" ∷ decimal day ∷ []

-- `task`, a task and its bytes
abbrev pub task_fields : List ℕ × List ℕ → List (List ℕ)
task_fields row = codes "task" ∷ row.0 ∷ row.1 ∷ []

-- `name`, the three texts of a name and its bytes
abbrev pub name_fields : SegmentName × List ℕ → List (List ℕ)
name_fields row = codes "name" ∷ row.0.0 ∷ row.0.1 ∷ row.0.2 ∷ row.1 ∷ []

-- the rows below the header, and all of them
abbrev pub rows_below : Table SegmentName (List ℕ) → List (List (List ℕ))
rows_below u = map day_fields u.days ++ (map task_fields u.tasks ++ map name_fields u.names)

abbrev pub all_rows : Table SegmentName (List ℕ) → List (List (List ℕ))
all_rows u = header_fields u ∷ rows_below u

-- the text of a table
abbrev pub table_text : Table SegmentName (List ℕ) → List ℕ
table_text u = flat_map row_of (all_rows u)

-- a field has no tab and no line feed
abbrev pub IsUnbroken : List ℕ → Type 0
IsUnbroken field = All (λ b. (b == 9) ≡ false) field × All (λ b. (b == 10) ≡ false) field

-- all fields of all rows have none, and all numbers fit 64 bits
pub record IsPrintable (u : Table SegmentName (List ℕ)) : Type 0 where
  pub fields : All (All IsUnbroken) (all_rows u)
  pub traces : u.traces < 2 ^ 64
  pub days : All (λ d. d < 2 ^ 64) u.days

-- a text is that of one table
abbrev pub TextsTellApart : Type 0
TextsTellApart = (u v : Table SegmentName (List ℕ)) → IsPrintable u → IsPrintable v
    → table_text u ≡ table_text v → u ≡ v

-- the text of a digest
abbrev pub digest_text : Digest SegmentName (List ℕ) → List ℕ
digest_text s = table_text (table_of name_cmp (slice_cmp nat_cmp) s)

-- the three texts of a name can be fields
abbrev pub IsUnbrokenName : SegmentName → Type 0
IsUnbrokenName name = IsUnbroken name.0 × IsUnbroken name.1 × IsUnbroken name.2

-- the texts of a digest can be fields, and its numbers fit 64 bits
pub record HasFields (s : Digest SegmentName (List ℕ)) : Type 0 where
  pub names : All IsUnbrokenName s.names
  pub tasks : All IsUnbroken s.tasks
  pub days : All (λ d. d < 2 ^ 64) s.days
  pub traces : s.traces < 2 ^ 64
  pub few_days : length s.days < 2 ^ 64
  pub few_tasks : length s.tasks < 2 ^ 64
  pub few_names : length s.names < 2 ^ 64

-- a text is that of one digest
abbrev pub DigestTextsTellApart : Type 0
DigestTextsTellApart = (s t : Digest SegmentName (List ℕ))
    → IsCoherent name_cmp (slice_cmp nat_cmp) s → IsCoherent name_cmp (slice_cmp nat_cmp) t
    → HasFields s → HasFields t → digest_text s ≡ digest_text t → s ≡ t
