-- How many traces a batch has, and that a trace has its facts in one way.
use Rattle.std.proofs.Common.{◌≡◌, ℕ, ◌≤◌, List, [], ◌∷◌, Bool, true, false, not, length, map, ap, refl, sym, subst, ◌∙◌, arith, Some, None}
use Rattle.std.specs.Prelude.{count_by, filter, Option}
use Rattle.std.specs.Str.{bytes_eq}
use Rattle.std.proofs.lemmas.List.{length-map}
use Rattle.std.proofs.lemmas.List.Sums.{count_by-le-length, length-filter}
use Rattle.trace_types.specs.declared.event.Event.{Event}
use Rattle.trace_types.specs.declared.trace.Trace.{Trace}
use Rattle.trace_types.specs.Batch.{PlainTrace, requests_of, trace_of, traces_of}
use Rattle.trace_types.specs.Firsts.{firsts_of}
use Rattle.clock_offsets.specs.MachineClocks.{AreMachineClocks}
use Rattle.clock_offsets.specs.declared.machine_clock.MachineClock.{MachineClock}
use Rattle.segment_cut.specs.Cutting.{IsCut}
use Rattle.segment_cut.specs.Faults.{IsTraceFault}
use Rattle.segment_cut.specs.declared.trace_fault.TraceFault.{TraceFault}
use Rattle.trace_quality.specs.Clocks.{AreClocks, AreTraceClocks, has_offsets, is_contradicted, is_reached}
use Rattle.trace_quality.specs.Facts.{AreMessages, IsFacts, IsJudged, IsVerdict}
use Rattle.trace_quality.specs.Times.{AreTimes}
use Rattle.trace_quality.specs.Waits.{count_waits}
use Rattle.trace_quality.specs.declared.clocks.ClockCounts.{ClockCounts}
use Rattle.trace_quality.specs.declared.messages.MessageCounts.{MessageCounts}
use Rattle.trace_quality.specs.declared.times.Times.{Times}
use Rattle.trace_quality.specs.declared.trace_facts.TraceFacts.{TraceFacts}
use Rattle.trace_quality.specs.declared.verdicts.Verdict.{Verdict}

firsts_few : {X : Type 0} (same : X → X → Bool) (xs : List X) → length (firsts_of same xs) ≤ length xs
firsts_few same [] = omega arith
firsts_few same (x ∷ xs) =
    let kept : length (filter (λ y. not (same x y)) (firsts_of same xs)) ≤ length (firsts_of same xs) = omega (arith, length-filter (λ y. not (same x y)) (firsts_of same xs), count_by-le-length (λ y. not (same x y)) (firsts_of same xs)) in
    let rest = firsts_few same xs in
    omega (arith, kept, rest)

pub traces_few : (batch : List Event) → length (traces_of batch) ≤ length batch
traces_few batch =
    omega (arith, length-map (requests_of batch) (trace_of batch), firsts_few bytes_eq (map (λ (e : Event). e.request) batch), length-map batch (λ (e : Event). e.request))

same_times : (events : List Event) (t u : Times) → AreTimes events t → AreTimes events u → t ≡ u
same_times events t u h k = ap (λ (n : ℕ). record { least = n; greatest = t.greatest }) least ∙ ap (λ (n : ℕ). record { least = u.least; greatest = n }) greatest
  where
    least : t.least ≡ u.least
    least = omega (arith, h.none_less k.some_least.0 k.some_least.1, k.some_least.2, k.none_less h.some_least.0 h.some_least.1, h.some_least.2)

    greatest : t.greatest ≡ u.greatest
    greatest = omega (arith, h.none_greater k.some_greatest.0 k.some_greatest.1, k.some_greatest.2, k.none_greater h.some_greatest.0 h.some_greatest.1, h.some_greatest.2)

same_messages : (events : List Event) (m n : MessageCounts) → AreMessages events m → AreMessages events n → m ≡ n
same_messages events m n h k =
    ap (λ (x : ℕ). record { sent = x; lost = m.lost; received = m.received; unsent = m.unsent }) (h.sent ∙ sym k.sent)
    ∙ ap (λ (x : ℕ). record { sent = n.sent; lost = x; received = m.received; unsent = m.unsent }) (h.lost ∙ sym k.lost)
    ∙ ap (λ (x : ℕ). record { sent = n.sent; lost = n.lost; received = x; unsent = m.unsent }) (h.received ∙ sym k.received)
    ∙ ap (λ (x : ℕ). record { sent = n.sent; lost = n.lost; received = n.received; unsent = x }) (h.unsent ∙ sym k.unsent)

pub clocks_once : (one_clocks : (events : List Event) (a b : List MachineClock) → AreMachineClocks events a → AreMachineClocks events b → a ≡ b) (events : List Event) (fault : Option TraceFault) (a b : List MachineClock)
    → AreTraceClocks events fault a → AreTraceClocks events fault b → a ≡ b
clocks_once one_clocks events fault a b h k = by (has_offsets fault) refl
  where
    by : (o : Bool) → has_offsets fault ≡ o → a ≡ b
    by true e = one_clocks events a b (h.found e) (k.found e)
    by false e = h.none e ∙ sym (k.none e)

module _ (one_trace : (request : List ℕ) (events : List Event) (t u : Trace) → IsCut request events t → IsCut request events u → t ≡ u)
    (one_fault : (events : List Event) (f g : TraceFault) → IsTraceFault events f → IsTraceFault events g → f ≡ g)
    (not_both : (request : List ℕ) (events : List Event) (t : Trace) (f : TraceFault) → IsCut request events t → IsTraceFault events f → ⊥)
    (one_clocks : (events : List Event) (a b : List MachineClock) → AreMachineClocks events a → AreMachineClocks events b → a ≡ b) where
  judged_once : (t : PlainTrace) (f g : Option TraceFault) (m n w x : ℕ) → IsJudged t f m w → IsJudged t g n x → (f ≡ g) × (m ≡ n) × (w ≡ x)
  judged_once t None None m n w x h k =
      let same = one_trace t.request t.events h.0 k.0 h.1 k.1 in
      (refl, h.2 ∙ ap (λ (r : Trace). length r.segments) same ∙ sym k.2, h.3 ∙ ap (λ (r : Trace). count_waits t.events r.segments) same ∙ sym k.3)
  judged_once t None (Some g) m n w x h k = absurd (not_both t.request t.events h.0 g h.1 k.0)
  judged_once t (Some f) None m n w x h k = absurd (not_both t.request t.events k.0 f k.1 h.0)
  judged_once t (Some f) (Some g) m n w x h k = (ap (λ (r : TraceFault). Some r) (one_fault t.events f g h.0 k.0), h.1 ∙ sym k.1, h.2 ∙ sym k.2)

  same_verdict : (t : PlainTrace) (v w : Verdict) → IsVerdict t v → IsVerdict t w → v ≡ w
  same_verdict t v w h k =
      let e = judged_once t v.fault w.fault v.segments w.segments v.waits w.waits h k in
      ap (λ (f : Option TraceFault). record { fault = f; segments = v.segments; waits = v.waits }) e.0
      ∙ ap (λ (n : ℕ). record { fault = w.fault; segments = n; waits = v.waits }) e.1
      ∙ ap (λ (n : ℕ). record { fault = w.fault; segments = w.segments; waits = n }) e.2

  same_clocks : (events : List Event) (fault : Option TraceFault) (c d : ClockCounts) → AreClocks events fault c → AreClocks events fault d → c ≡ d
  same_clocks events fault c d h k =
      let same = clocks_once one_clocks events fault h.clocks k.clocks h.told k.told in
      ap (λ (x : ℕ). record { all = x; reached = c.reached; unreached = c.unreached; contradicted = c.contradicted }) (h.all ∙ ap length same ∙ sym k.all)
      ∙ ap (λ (x : ℕ). record { all = d.all; reached = x; unreached = c.unreached; contradicted = c.contradicted }) (h.reached ∙ ap (count_by (λ (m : MachineClock). is_reached m.clock)) same ∙ sym k.reached)
      ∙ ap (λ (x : ℕ). record { all = d.all; reached = d.reached; unreached = x; contradicted = c.contradicted }) (h.unreached ∙ ap (count_by (λ (m : MachineClock). not (is_reached m.clock))) same ∙ sym k.unreached)
      ∙ ap (λ (x : ℕ). record { all = d.all; reached = d.reached; unreached = d.unreached; contradicted = x }) (h.contradicted ∙ ap (count_by (λ (m : MachineClock). is_contradicted m.clock)) same ∙ sym k.contradicted)

  pub facts_once : (t : PlainTrace) (f g : TraceFacts) → IsFacts t f → IsFacts t g → f ≡ g
  facts_once t f g h k =
      let verdict = same_verdict t f.verdict g.verdict h.verdict k.verdict in
      let clocks = subst (λ (v : Verdict). AreClocks t.events v.fault f.clocks) verdict h.clocks in
      ap (λ (x : Times). record { times = x; verdict = f.verdict; messages = f.messages; clocks = f.clocks }) (same_times t.events f.times g.times h.times k.times)
      ∙ ap (λ (v : Verdict). record { times = g.times; verdict = v; messages = f.messages; clocks = f.clocks }) verdict
      ∙ ap (λ (m : MessageCounts). record { times = g.times; verdict = g.verdict; messages = m; clocks = f.clocks }) (same_messages t.events f.messages g.messages h.messages k.messages)
      ∙ ap (λ (c : ClockCounts). record { times = g.times; verdict = g.verdict; messages = g.messages; clocks = c }) (same_clocks t.events g.verdict.fault f.clocks g.clocks clocks k.clocks)
