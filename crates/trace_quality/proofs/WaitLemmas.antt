-- The waits among segments by their numbers.
use Rattle.std.proofs.Common.{◌≡◌, ℕ, ◌+◌, ◌<◌, ◌≤◌, List, Bool, length, get_or, take, ap, sym, ◌∙◌, arith}
use Rattle.std.proofs.lemmas.List.{get_or-map, length-map, take_all}
use Rattle.event_table.specs.Gathered.{NumberedTrace}
use Rattle.segment_cut.specs.declared.cut_segment.CutSegment.{CutSegment}
use Rattle.segment_cut.specs.NumberedCuts.{segment_under, segments_under}
use Rattle.trace_quality.specs.Measures.{one_if}
use Rattle.trace_quality.specs.Waits.{count_waits, is_wait}
use Rattle.trace_quality.proofs.CountLemmas.{count_more}

module _ (raw : NumberedTrace) (segments : List CutSegment) (i now : ℕ) where
  -- one segment more
  pub waits_more : (s : CutSegment) (after : ℕ) (b : Bool) → i < length segments → now ≡ count_waits raw.trace.events (take i (segments_under raw.texts segments)) → s ≡ get_or segments i s → b ≡ is_wait raw.trace.events (segment_under raw.texts s) → after ≡ now + one_if b → after ≡ count_waits raw.trace.events (take (i + 1) (segments_under raw.texts segments))
  waits_more s after b lt h is wait e =
      count_more (is_wait raw.trace.events) (segments_under raw.texts segments) i (segment_under raw.texts s) (segment_under raw.texts s) now after (omega (arith, lt, length-map segments (segment_under raw.texts))) h
      (ap (segment_under raw.texts) is ∙ sym (get_or-map (segment_under raw.texts) segments i s (segment_under raw.texts s) lt))
      (e ∙ ap (λ c. now + one_if c) wait)

  pub waits_all : length segments ≤ i → now ≡ count_waits raw.trace.events (take i (segments_under raw.texts segments)) → now ≡ count_waits raw.trace.events (segments_under raw.texts segments)
  waits_all ge h = h ∙ ap (count_waits raw.trace.events) (take_all i (segments_under raw.texts segments) (omega (arith, ge, length-map segments (segment_under raw.texts))))
