-- Relations of the names of a batch's valid traces that few of these traces refute, by little. This
-- is the project's own.
use Rattle.std.specs.Prelude.{ℕ, ◌≡◌, List, [], Some, length, map, slice_get}
use Rattle.evidence_rules.specs.Meetings.{AreMeetingFigures, meetings_from}
use Rattle.evidence_rules.specs.declared.between.Between.{Between}
use Rattle.grace_quality.specs.Near.{count_met, near_rows}
use Rattle.grace_quality.specs.declared.near.NearRelation.{NearRelation}
use Rattle.segment_names.specs.Known.{Known, same_name, with_traces}
use Rattle.segment_names.specs.Limits.{Fits, PassesLimit}
use Rattle.segment_names.specs.declared.name_fault.NameLimit.{NameLimit}
use Rattle.session_rules.specs.Batches.{AreJudged}
use Rattle.session_rules.specs.KeptTraces.{Kept, by_kept, kept_with}
use Rattle.session_rules.specs.declared.refused.Refused.{Refused}
use Rattle.trace_types.specs.Batch.{PlainTrace}
use Rattle.trace_types.specs.Segments.{SegmentName}
use Rattle.trace_types.specs.declared.named_trace.NamedTrace.{NamedTrace}
use Rattle.trace_types.specs.declared.trace.Trace.{Trace}

-- what a catalogue knows before the first trace
abbrev pub nothing_known : Known
nothing_known = record { names = []; tasks = [] }

-- the traces, each with a grace of 0
abbrev pub without_grace : List Trace → List Kept
without_grace traces = map (kept_with 0) traces

-- the figures of each two names, by their indices, are those of their meetings in traces
abbrev pub AreFiguresOf : List SegmentName → List Kept → (ℕ → ℕ → Between) → Type 0
AreFiguresOf names kept figures = (a b : ℕ) (one other : SegmentName)
    → slice_get names a ≡ Some one → slice_get names b ≡ Some other
    → AreMeetingFigures (meetings_from by_kept same_name one other 0 kept) (figures a b)

-- the valid traces of a batch pass this limit of a catalogue
pub record PassesLimitOf (traces : List PlainTrace) (limit : NameLimit) : Type 0 where
  pub valid : List Trace
  pub refused : List Refused
  pub judged : AreJudged traces valid refused
  pub passes : PassesLimit nothing_known valid limit

-- the requests of traces
abbrev pub trace_request : Trace → List ℕ
trace_request t = t.request

abbrev pub named_request : NamedTrace → List ℕ
named_request t = t.request

-- these are the names of the valid traces of a batch and the requests of these, how many relations
-- there are of names that meet, and those of them that few traces refute, by little; the traces pass
-- no limit of names or tasks
pub record AreNearRelations (traces : List PlainTrace) (names : List SegmentName)
    (requests : List (List ℕ)) (met : ℕ) (near : List NearRelation) : Type 0 where
  pub valid : List Trace
  pub refused : List Refused
  pub judged : AreJudged traces valid refused
  pub fits : Fits (with_traces nothing_known valid)
  pub names_are : names ≡ (with_traces nothing_known valid).names
  pub requests_are : requests ≡ map trace_request valid
  pub figures : ℕ → ℕ → Between
  pub figures_are : AreFiguresOf names (without_grace valid) figures
  pub met_is : met ≡ count_met figures (length names)
  pub near_are : near ≡ near_rows figures (length names)
