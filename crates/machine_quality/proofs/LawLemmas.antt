-- Traces tell of the clocks of their machines in one way.
use Rattle.std.proofs.Common.{◌≡◌, List, Option, map, ap, ◌∙◌, sym, subst}
use Rattle.std.specs.List.{flat_map}
use Rattle.trace_types.specs.declared.event.Event.{Event}
use Rattle.trace_types.specs.Batch.{PlainTrace}
use Rattle.clock_offsets.specs.declared.machine_clock.MachineClock.{MachineClock}
use Rattle.segment_cut.specs.declared.trace_fault.TraceFault.{TraceFault}
use Rattle.trace_quality.specs.Clocks.{AreTraceClocks}
use Rattle.trace_quality.specs.Facts.{IsFacts}
use Rattle.trace_quality.specs.declared.trace_facts.TraceFacts.{TraceFacts}
use Rattle.machine_quality.specs.Told.{AreTold, IsTold, NamedClock, named_clock}
use Rattle.machine_quality.proofs.ListLemmas.{zip_once}

module _ (one_facts : (t : PlainTrace) (f g : TraceFacts) → IsFacts t f → IsFacts t g → f ≡ g)
    (one_clocks : (events : List Event) (fault : Option TraceFault) (a b : List MachineClock) → AreTraceClocks events fault a → AreTraceClocks events fault b → a ≡ b) where
  told_once : (t : PlainTrace) (a b : List NamedClock) → IsTold t a → IsTold t b → a ≡ b
  told_once t a b h k =
      let same = one_facts t h.facts k.facts h.known k.known in
      let clocks = one_clocks t.events k.facts.verdict.fault h.clocks k.clocks (subst (λ (f : TraceFacts). AreTraceClocks t.events f.verdict.fault h.clocks) same h.are) k.are in
      h.named ∙ ap (map (named_clock t.events)) clocks ∙ sym k.named

  pub all_told_once : (traces : List PlainTrace) (a b : List NamedClock) → AreTold traces a → AreTold traces b → a ≡ b
  all_told_once traces a b h k = h.joined ∙ ap (flat_map (λ (one : List NamedClock). one)) (zip_once IsTold told_once traces h.each k.each h.by k.by) ∙ sym k.joined
