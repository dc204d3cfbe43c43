-- What the steps of cutting the traces of a batch do.
use Rattle.std.specs.Prelude.{◌≡◌, ◌++◌, ◌∷◌, [], List, All, Result, map}
use Rattle.trace_types.specs.declared.trace.Trace.{Trace}
use Rattle.trace_types.specs.Batch.{PlainTrace}
use Rattle.event_table.specs.Texts.{TextLists}
use Rattle.segment_cut.specs.NumberedCuts.{NumberedCut}
use Rattle.segment_cut.specs.declared.trace_fault.TraceFault.{TraceFault}
use Rattle.session_rules.specs.Batches.{AreJudged, IsJudged, refused_of, valid_of}
use Rattle.batch_sheets.specs.declared.judging.JudgedTraces.{JudgedTraces}
use Rattle.batch_sheets.specs.Named.{HasFewSegments, cut_trace}

-- the valid traces have few segments, and their numbers stand for these texts
pub record AreCut (texts : TextLists) (valid : List NumberedCut) : Type 0 where
  pub few : All HasFewSegments (map cut_trace valid)
  pub same_texts : All (λ (c : NumberedCut). c.texts ≡ texts) valid

-- one trace more is judged
pub record Judges (texts : TextLists) (raw : PlainTrace) (old new : JudgedTraces) : Type 0 where
  pub verdict : Result Trace TraceFault
  pub judged : IsJudged raw verdict
  pub valid : map cut_trace new.valid.items
      ≡ map cut_trace old.valid.items ++ valid_of (verdict ∷ [])
  pub refused : new.refused.items ≡ old.refused.items ++ refused_of (raw ∷ []) (verdict ∷ [])
  pub cut : AreCut texts old.valid.items → AreCut texts new.valid.items

-- of these traces all are judged
pub record AreJudgedSoFar (texts : TextLists) (raws : List PlainTrace) (judged : JudgedTraces)
    : Type 0 where
  pub all : AreJudged raws (map cut_trace judged.valid.items) judged.refused.items
  pub cut : AreCut texts judged.valid.items
