-- The printed text of the model of kept traces, and of those that a given digest stands for.
use Rattle.std.specs.Prelude.{◌≡◌, ℕ, ◌+◌, ◌++◌, List, [], ◌∷◌, length, map, codes}
use Rattle.std.specs.Cmp.Lexicographic.{slice_cmp}
use Rattle.std.specs.List.{flat_map}
use Rattle.std.specs.Ordering.{nat_cmp}
use Rattle.digest_facts.specs.Digests.{Digest}
use Rattle.digest_facts.specs.Facts.{IsOrdered, IsPiped, IsUnordered}
use Rattle.text_rows.specs.Rows.{figure, row_of}
use Rattle.trace_types.specs.Listing.{ListsExactly, CountsDistinct}
use Rattle.trace_types.specs.NameOrder.{name_cmp, pair_cmp}
use Rattle.trace_types.specs.Parts.{segments_of}
use Rattle.trace_types.specs.Segments.{SegmentName, name_of, task_of}
use Rattle.session_rules.specs.GivenDigests.{known_under}
use Rattle.session_rules.specs.KeptTraces.{Kept, by_kept, day_of}

-- figures of traces: the number of distinct days, of distinct names and distinct tasks of
-- their segments, the ordered pairs of names, the mutually exclusive pairs with no fixed order, and
-- the pairs of tasks that are a pipeline
pub record Figures : Type 0 where
  pub days : ℕ
  pub names : ℕ
  pub tasks : ℕ
  pub hb : List (SegmentName × SegmentName)
  pub mx : List (SegmentName × SegmentName)
  pub pipe : List (List ℕ × List ℕ)

-- these are the figures of the traces that the given digest stands for and of the kept ones
pub record AreModelFigures (given : Digest SegmentName (List ℕ)) (kept : List Kept)
    (figures : Figures) : Type 0 where
  pub days : CountsDistinct figures.days (given.days ++ map day_of kept)
  pub names :
      CountsDistinct figures.names (given.names ++ map name_of (segments_of by_kept kept))
  pub tasks :
      CountsDistinct figures.tasks (given.tasks ++ map task_of (segments_of by_kept kept))
  pub hb : ListsExactly (pair_cmp name_cmp)
      (λ pair. IsOrdered (known_under given kept) pair.0 pair.1) figures.hb
  pub mx : ListsExactly (pair_cmp name_cmp)
      (λ pair. IsUnordered (known_under given kept) name_cmp pair.0 pair.1) figures.mx
  pub pipe : ListsExactly (pair_cmp (slice_cmp nat_cmp))
      (λ pair. IsPiped (known_under given kept) pair.0 pair.1) figures.pipe

-- how many traces there are: those that the given digest stands for, and the kept ones
abbrev pub traces_under : Digest SegmentName (List ℕ) → List Kept → ℕ
traces_under given kept = given.traces + length kept

-- `model`, and how many traces, days, names, tasks, ordered pairs, exclusive pairs and pipelines
-- there are
abbrev pub header_row : ℕ → Figures → List ℕ
header_row traces figures =
    row_of (codes "model" ∷ figure (codes "traces") traces ∷ figure (codes "days") figures.days
    ∷ figure (codes "segments") figures.names ∷ figure (codes "tasks") figures.tasks
    ∷ figure (codes "hb") (length figures.hb) ∷ figure (codes "mx") (length figures.mx)
    ∷ figure (codes "pipe") (length figures.pipe) ∷ [])

-- the name of a relation, and the task, the start event and the end event of both names
abbrev pub pair_row : List ℕ → SegmentName × SegmentName → List ℕ
pair_row word pair =
    row_of (word ∷ pair.0.0 ∷ pair.0.1 ∷ pair.0.2 ∷ pair.1.0 ∷ pair.1.1 ∷ pair.1.2 ∷ [])

-- `pipe`, and both tasks
abbrev pub pipe_row : List ℕ × List ℕ → List ℕ
pipe_row pair = row_of (codes "pipe" ∷ pair.0 ∷ pair.1 ∷ [])

-- the bytes are the first row of the model
pub record IsModelHead (given : Digest SegmentName (List ℕ)) (kept : List Kept) (bytes : List ℕ)
    : Type 0 where
  pub figures : Figures
  pub told : AreModelFigures given kept figures
  pub text : bytes ≡ header_row (traces_under given kept) figures

-- the header, the ordered pairs, the exclusive pairs and the pipelines
abbrev pub model_text : ℕ → Figures → List ℕ
model_text traces figures =
    header_row traces figures
    ++ (flat_map (pair_row (codes "hb")) figures.hb
    ++ (flat_map (pair_row (codes "mx")) figures.mx
    ++ flat_map pipe_row figures.pipe))

-- the bytes are the text of the model
pub record IsModelText (given : Digest SegmentName (List ℕ)) (kept : List Kept) (bytes : List ℕ)
    : Type 0 where
  pub figures : Figures
  pub told : AreModelFigures given kept figures
  pub text : bytes ≡ model_text (traces_under given kept) figures
