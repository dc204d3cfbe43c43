-- Traces fix the rows on them.
use Rattle.std.proofs.Common.{◌≡◌, ◌∙◌, ◌≤◌, ℕ, List, [], ◌∷◌, Option, Some, None, ap, arith, length, refl, subst, sym}
use Rattle.std.specs.List.{AllZip}
use Rattle.trace_quality.specs.Extremes.{AreExtremes}
use Rattle.trace_quality.specs.Facts.{IsFacts}
use Rattle.trace_quality.specs.declared.times.Times.{Times}
use Rattle.trace_quality.specs.declared.trace_facts.TraceFacts.{TraceFacts}
use Rattle.trace_types.specs.Batch.{PlainTrace}
use Rattle.machine_quality.specs.Told.{AreTold, NamedClock}
use Rattle.inspect_run.specs.TraceRows.{AreTimesOf, AreTraceRows, trace_rows}

same_extremes : (facts : List TraceFacts) (s t : Times) → AreExtremes facts s → AreExtremes facts t → s ≡ t
same_extremes facts s t h k = ap (λ (n : ℕ). record { least = n; greatest = s.greatest }) least ∙ ap (λ (n : ℕ). record { least = t.least; greatest = n }) greatest
  where
    low : (a b : Times) → AreExtremes facts a → AreExtremes facts b → a.least ≤ b.least
    low a b x y = omega (arith, x.none_less y.some_least.0 y.some_least.1 y.some_least.2, ap (λ (f : TraceFacts). f.times.least) y.some_least.3, y.some_least.4)

    high : (a b : Times) → AreExtremes facts a → AreExtremes facts b → b.greatest ≤ a.greatest
    high a b x y = omega (arith, x.none_greater y.some_greatest.0 y.some_greatest.1 y.some_greatest.2, ap (λ (f : TraceFacts). f.times.greatest) y.some_greatest.3, y.some_greatest.4)

    least : s.least ≡ t.least
    least = omega (arith, low s t h k, low t s k h)

    greatest : s.greatest ≡ t.greatest
    greatest = omega (arith, high s t h k, high t s k h)

same_times : (facts : List TraceFacts) (s t : Option Times) → AreTimesOf facts s → AreTimesOf facts t → s ≡ t
same_times facts None None h k = refl
same_times facts None (Some t) h k = let lt = k.some_least.2 in let none = ap length h in absurd (omega arith)
same_times facts (Some s) None h k = let lt = h.some_least.2 in let none = ap length k in absurd (omega arith)
same_times facts (Some s) (Some t) h k = ap (λ (x : Times). Some x) (same_extremes facts s t h k)

module _ (one : (t : PlainTrace) (f g : TraceFacts) → IsFacts t f → IsFacts t g → f ≡ g)
    (one_told : (traces : List PlainTrace) (a b : List NamedClock) → AreTold traces a → AreTold traces b → a ≡ b) where
  same_facts : (traces : List PlainTrace) (fs gs : List TraceFacts) → AllZip IsFacts traces fs → AllZip IsFacts traces gs → fs ≡ gs
  same_facts [] [] [] h k = refl
  same_facts [] [] (g ∷ gs) h k = absurd k
  same_facts [] (f ∷ fs) gs h k = absurd h
  same_facts (t ∷ ts) [] gs h k = absurd h
  same_facts (t ∷ ts) (f ∷ fs) [] h k = absurd k
  same_facts (t ∷ ts) (f ∷ fs) (g ∷ gs) h k = λ i. one t f g h.0 k.0 i ∷ same_facts ts fs gs h.1 k.1 i

  pub same_rows : (traces : List PlainTrace) (rows others : List ℕ) → AreTraceRows traces rows → AreTraceRows traces others → rows ≡ others
  same_rows traces rows others h k =
      let facts = same_facts traces h.facts k.facts h.found k.found in
      let times = same_times k.facts h.times k.times (subst (λ (fs : List TraceFacts). AreTimesOf fs h.times) facts h.extremes) k.extremes in
      let told = one_told traces h.told k.told h.heard k.heard in
      h.printed ∙ (λ i. trace_rows traces (facts i) (told i) (times i)) ∙ sym k.printed
