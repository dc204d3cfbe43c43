-- A table of figures, with those of each ordered pair of names.
use Rattle.std.specs.Prelude.{ℕ, ◌<◌, ◌==◌, pos, List, [], slice_index_or}
use Rattle.evidence_rules.specs.Meetings.{AreMeetingFigures, meetings_from}
use Rattle.evidence_rules.specs.declared.between.Between.{Between}
use Rattle.trace_types.specs.Parts.{by_number}
use Rattle.trace_types.specs.declared.named_trace.NamedTrace.{NamedTrace}

-- the figures of no meetings
abbrev pub no_figures : Between
no_figures = record {
  traces = 0;
  early = 0;
  turned = 0;
  both = 0;
  first_early = 0;
  first_both = 0;
  least = pos 0;
  greatest = pos 0;
  nearest = pos 0;
}

-- a table: the number of names, and for each of them the figures of it and each name
pub record TableState : Type 0 where
  pub names : ℕ
  pub rows : List (List Between)

-- the figures of two names
abbrev pub figures_of : TableState → ℕ → ℕ → Between
figures_of t a b = slice_index_or (slice_index_or t.rows a []) b no_figures

-- the table has the figures of the meetings of each two names below this number
abbrev pub IsTableOf : ℕ → List NamedTrace → TableState → Type 0
IsTableOf names traces t = (a b : ℕ) → a < names → b < names
    → AreMeetingFigures (meetings_from by_number (λ m n. m == n) a b 0 traces) (figures_of t a b)
