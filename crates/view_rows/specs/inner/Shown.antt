-- The found model is the model of the given digest and the kept traces.
use Rattle.std.specs.Prelude.{◌≡◌, ℕ, List}
use Rattle.digest_facts.specs.Digests.{Digest}
use Rattle.judged_books.specs.JudgedBooks.{IsJudgedOf, JudgedState}
use Rattle.session_rules.specs.KeptTraces.{Kept}
use Rattle.session_rules.specs.ModelTexts.{AreModelFigures, traces_under}
use Rattle.trace_types.specs.Segments.{SegmentName}
use Rattle.view_rows.specs.declared.found_model.FoundModel.{FoundModel}
use Rattle.view_rows.specs.inner.Found.{IsFound, figures_in}

-- what is found of a judged book by number are the figures of the given digest and the kept traces
-- that it shows
abbrev pub FoundIsShown : Type 0
FoundIsShown = (j : JudgedState) (given : Digest SegmentName (List ℕ)) (kept : List Kept)
    (m : FoundModel) → IsJudgedOf j given kept → IsFound j m
    → AreModelFigures given kept (figures_in m) × (m.traces ≡ traces_under given kept)
