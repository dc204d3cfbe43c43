-- Traces fix the names of their segments.
use Rattle.std.proofs.Common.{◌≡◌, ◌∙◌, inl, inr, ℕ, List, [], ◌∷◌, ap, map, refl, sym}
use Rattle.std.specs.List.{AllZip}
use Rattle.segment_cut.specs.Cutting.{IsCut}
use Rattle.segment_cut.specs.Faults.{IsTraceFault}
use Rattle.segment_cut.specs.declared.trace_fault.TraceFault.{TraceFault}
use Rattle.trace_types.specs.Batch.{PlainTrace}
use Rattle.trace_types.specs.Segments.{SegmentName, name_of}
use Rattle.trace_types.specs.declared.event.Event.{Event}
use Rattle.trace_types.specs.declared.trace.Trace.{Trace}
use Rattle.name_quality.specs.Names.{HasNames}

module _ (one : (request : List ℕ) (events : List Event) (t u : Trace) → IsCut request events t → IsCut request events u → t ≡ u) (not_both : (request : List ℕ) (events : List Event) (t : Trace) (f : TraceFault) → IsCut request events t → IsTraceFault events f → ⊥) where
  same_names : (t : PlainTrace) (names others : List SegmentName) → HasNames t names → HasNames t others → names ≡ others
  same_names t names others (inl (a, h, e)) (inl (b, k, f)) = e ∙ ap (λ (x : Trace). map name_of x.segments) (one t.request t.events a b h k) ∙ sym f
  same_names t names others (inl (a, h, e)) (inr (g, k, f)) = absurd (not_both t.request t.events a g h k)
  same_names t names others (inr (g, h, e)) (inl (b, k, f)) = absurd (not_both t.request t.events b g k h)
  same_names t names others (inr (g, h, e)) (inr (i, k, f)) = e ∙ sym f

  pub same_named : (traces : List PlainTrace) (named others : List (List SegmentName)) → AllZip HasNames traces named → AllZip HasNames traces others → named ≡ others
  same_named [] [] [] h k = refl
  same_named [] [] (o ∷ os) h k = absurd k
  same_named [] (n ∷ ns) others h k = absurd h
  same_named (t ∷ ts) [] others h k = absurd h
  same_named (t ∷ ts) (n ∷ ns) [] h k = absurd k
  same_named (t ∷ ts) (n ∷ ns) (o ∷ os) h k = λ i. same_names t n o h.0 k.0 i ∷ same_named ts ns os h.1 k.1 i
