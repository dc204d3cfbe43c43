-- The valid traces of a batch by numbers, and what is found in them.
use Rattle.std.specs.Prelude.{ℕ, ◌≡◌, List, All, length, true}
use Rattle.std.specs.Borrow.{Bor}
use Rattle.book_laws.specs.Shown.{AreShown}
use Rattle.grace_quality.specs.Near.{count_met, is_slight, near_rows}
use Rattle.grace_quality.specs.declared.near.NearRelation.{NearRelation}
use Rattle.name_meetings.specs.Tables.{IsTableOf, TableState, figures_of}
use Rattle.refute_tests.specs.Clearing.{HaveNamesBelow}
use Rattle.segment_names.specs.Known.{Known, with_traces}
use Rattle.session_rules.specs.Batches.{AreJudged}
use Rattle.session_rules.specs.declared.refused.Refused.{Refused}
use Rattle.trace_types.specs.Batch.{PlainTrace}
use Rattle.trace_types.specs.declared.named_trace.NamedTrace.{NamedTrace}
use Rattle.trace_types.specs.declared.trace.Trace.{Trace}
use Rattle.near_relations.specs.NearRelations.{nothing_known, without_grace}

-- what is borrowed
abbrev pub borrowed : Bor NamedTrace → NamedTrace
borrowed b = b.now

-- the named traces are the valid ones, under the numbers of a catalogue of their names
pub record IsBatchNamed (traces : List PlainTrace) (known : Known) (named : List NamedTrace)
    : Type 0 where
  pub valid : List Trace
  pub refused : List Refused
  pub judged : AreJudged traces valid refused
  pub names : known ≡ with_traces nothing_known valid
  pub shown : AreShown known named (without_grace valid)
  pub below : All (HaveNamesBelow (length known.names)) named

-- what a table of their meetings tells
pub record AreFound (names : ℕ) (traces : List NamedTrace) (met : ℕ) (near : List NearRelation)
    : Type 0 where
  pub table : TableState
  pub is : IsTableOf names traces table
  pub met_is : met ≡ count_met (figures_of table) names
  pub near_are : near ≡ near_rows (figures_of table) names
  pub slight : All (λ (r : NearRelation). is_slight r.gap ≡ true) near
