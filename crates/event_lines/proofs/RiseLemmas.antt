-- Two neighbours tell whether lines rise from the one to the other.
use Rattle.std.proofs.Common.{◌≡◌, ℕ, ◌+◌, ◌<◌, ◌≤◌, List, length, get_or, map, slice_index, ap, arith, inl, inr}
use Rattle.std.proofs.lemmas.Bool.{cases_lt}
use Rattle.std.proofs.lemmas.List.{get_or-map, length-map}
use Rattle.trace_types.specs.declared.event.Event.{Event}
use Rattle.trace_types.specs.EventLines.{LinesRise}

abbrev lines_of_events : List Event → List ℕ
lines_of_events events = map (λ (e : Event). e.line) events

-- the lines before place n rise
abbrev pub RiseBelow : ℕ → List Event → Type 0
RiseBelow n events = (k : ℕ) → k + 1 < n → slice_index (lines_of_events events) k < slice_index (lines_of_events events) (k + 1)

line_at : (events : List Event) (k : ℕ) (d : Event) → k < length events → slice_index (lines_of_events events) k ≡ (get_or events k d).line
line_at events k d within = get_or-map (λ (e : Event). e.line) events k d 0 within

module _ (events : List Event) (k p : ℕ) (c d : Event) (next : p ≡ k + 1) (within : p < length events) where
  pub falls : (get_or events p d).line ≤ (get_or events k c).line → LinesRise events → ⊥
  falls le rising =
      let x = line_at events k c (omega arith) in
      let y = line_at events p d within in
      let lt = rising k (rw length-map (omega arith)) in
      let z = ap (slice_index (lines_of_events events)) next in
      omega (arith, x, y, z, lt)

  pub rises_more : (get_or events k c).line < (get_or events p d).line → RiseBelow p events → RiseBelow (p + 1) events
  rises_more lt before j within_j = elim (cases_lt (j + 1) p) [
    | inl earlier ↦ before j earlier
    | inr later ↦
        let same : j ≡ k = omega arith in
        let x = line_at events k c (omega arith) in
        let y = line_at events p d within in
        let z = ap (slice_index (lines_of_events events)) next in
        rw same (omega (arith, x, y, z))
  ]
