-- The model of a judged book as it is found: by number, with the texts of a catalogue.
use Rattle.std.specs.Prelude.{◌≡◌, ℕ, ◌+◌, List, length, Bool}
use Rattle.std.specs.Cmp.Lexicographic.{slice_cmp}
use Rattle.std.specs.Ordering.{nat_cmp}
use Rattle.judged_books.specs.JudgedBooks.{JudgedState}
use Rattle.kept_books.specs.KeptBooks.{traces_in}
use Rattle.view_rows.specs.declared.found_model.FoundModel.{FoundModel}
use Rattle.view_rows.specs.inner.Gathered.{AreDaysOf, AreNameMarks, AreTaskMarks}
use Rattle.kept_names.specs.Listings.{ListsMarked}
use Rattle.view_rows.specs.inner.Listings.{IsExclusion, IsOrder, IsPipe}
use Rattle.session_rules.specs.ModelTexts.{Figures}
use Rattle.trace_types.specs.Listing.{ListsExactly}
use Rattle.trace_types.specs.NameOrder.{name_cmp, pair_cmp}
use Rattle.trace_types.specs.Segments.{SegmentName}

-- the figures of the found model
abbrev pub figures_in : FoundModel → Figures
figures_in m = record {
  days = m.days;
  names = m.names;
  tasks = m.tasks;
  hb = m.hb.items;
  mx = m.mx.items;
  pipe = m.pipe.items;
}

-- the names of both are listed, with so many of them, the ordered and the exclusive pairs
pub record HasNames (j : JudgedState) (m : FoundModel) : Type 0 where
  pub marks : List Bool
  pub items : List (SegmentName × ℕ)
  pub marked : AreNameMarks j marks
  pub listed : ListsMarked name_cmp j.book.known.names marks items
  pub count : m.names ≡ length items
  pub hb : ListsExactly (pair_cmp name_cmp) (λ pair. IsOrder items j.words pair.0 pair.1) m.hb.items
  pub mx : ListsExactly (pair_cmp name_cmp)
      (λ pair. IsExclusion items j.words pair.0 pair.1) m.mx.items

-- the tasks of both are listed, with so many of them, and the pipelines
pub record HasTasks (j : JudgedState) (m : FoundModel) : Type 0 where
  pub marks : List Bool
  pub items : List (List ℕ × ℕ)
  pub marked : AreTaskMarks j marks
  pub listed : ListsMarked (slice_cmp nat_cmp) j.book.known.tasks marks items
  pub count : m.tasks ≡ length items
  pub pipe : ListsExactly (pair_cmp (slice_cmp nat_cmp))
      (λ pair. IsPipe items j.words pair.0 pair.1) m.pipe.items

-- it is the model of the given digest and the book's traces
pub record IsFound (j : JudgedState) (m : FoundModel) : Type 0 where
  pub traces : m.traces ≡ j.given.table.traces + length (traces_in j.book)
  pub days : AreDaysOf j m.days
  pub names : HasNames j m
  pub tasks : HasTasks j m
