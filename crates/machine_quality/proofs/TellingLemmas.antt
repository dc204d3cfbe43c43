-- What traces tell, one clock and one trace after another.
use Rattle.std.proofs.Common.{◌≡◌, ℕ, ◌+◌, ◌<◌, ◌≤◌, List, [], ◌∷◌, ◌++◌, Some, length, get_or, map, take, ap, ◌∙◌, sym, subst, refl}
use Rattle.std.specs.Prelude.{slice_get}
use Rattle.std.specs.List.{AllZip, flat_map}
use Rattle.std.proofs.lemmas.Grind.{flat_map-append}
use Rattle.std.proofs.lemmas.List.{append-nil, append_assoc, map_push, take_all, take_more}
use Rattle.std.proofs.lemmas.List.Concat.{flat_map-cons}
use Rattle.std.proofs.lemmas.List.Elements.{All-push}
use Rattle.std.proofs.lemmas.Option.{get_or_from_slice_get, slice_get_within}
use Rattle.trace_types.specs.declared.event.Event.{Event}
use Rattle.trace_types.specs.Batch.{PlainTrace}
use Rattle.trace_types.specs.Events.{machine_at}
use Rattle.clock_offsets.specs.declared.machine_clock.MachineClock.{MachineClock}
use Rattle.trace_quality.specs.Facts.{IsFacts}
use Rattle.trace_quality.specs.declared.trace_facts.TraceFacts.{TraceFacts}
use Rattle.trace_quality.proofs.FactLemmas.{zip_push}
use Rattle.machine_quality.specs.Told.{AreBelow, AreTold, IsTold, NamedClock, clock_under, clocks_under, named_clock}
use Rattle.machine_quality.specs.inner.Numbered.{Appends}
use Rattle.machine_quality.specs.declared.numbered_clock.NumberedClock.{NumberedClock}

-- ---- one clock more

module _ (machines : List (List ℕ)) (events : List Event) (told new : List NumberedClock) (c : MachineClock) (number : ℕ) (at : slice_get machines number ≡ Some (machine_at events c.first)) (pushed : new ≡ told ++ record { machine = number; clock = c.clock } ∷ []) where
  abbrev x : NumberedClock
  x = record { machine = number; clock = c.clock }

  named : clock_under machines x ≡ named_clock events c
  named = ap (λ (m : List ℕ). record { machine = m; clock = c.clock }) (get_or_from_slice_get machines number (machine_at events c.first) [] at)

  pub clock_more : (old : List NumberedClock) (clocks : List MachineClock) (i : ℕ) (d : MachineClock) → i < length clocks → get_or clocks i d ≡ c
      → clocks_under machines told ≡ clocks_under machines old ++ map (named_clock events) (take i clocks)
      → clocks_under machines new ≡ clocks_under machines old ++ map (named_clock events) (take (i + 1) clocks)
  clock_more old clocks i d lt own h =
      ap (clocks_under machines) pushed ∙ map_push (clock_under machines) told x
      ∙ ap (λ (n : NamedClock). clocks_under machines told ++ n ∷ []) named
      ∙ ap (λ (ns : List NamedClock). ns ++ named_clock events c ∷ []) h
      ∙ append_assoc (clocks_under machines old) (map (named_clock events) (take i clocks)) (named_clock events c ∷ [])
      ∙ ap (λ (ns : List NamedClock). clocks_under machines old ++ ns) (sym more)
    where
      more : map (named_clock events) (take (i + 1) clocks) ≡ map (named_clock events) (take i clocks) ++ named_clock events c ∷ []
      more =
          ap (map (named_clock events)) (take_more clocks i d lt ∙ ap (λ (y : MachineClock). take i clocks ++ y ∷ []) own)
          ∙ map_push (named_clock events) (take i clocks) c

  pub clock_below : AreBelow (length machines) told → AreBelow (length machines) new
  clock_below h =
      subst (AreBelow (length machines)) (sym pushed) (All-push (λ (y : NumberedClock). y.machine < length machines) told x h (slice_get_within machines number (machine_at events c.first) at))

-- ---- one trace more

pub told_none : (traces : List PlainTrace) (machines : List (List ℕ)) → AreTold (take 0 traces) (clocks_under machines [])
told_none traces machines = record { each = []; by = tt; joined = refl }

pub told_more : (traces : List PlainTrace) (machines : List (List ℕ)) (i : ℕ) (t : PlainTrace) (f : TraceFacts) (told new : List NumberedClock) → slice_get traces i ≡ Some t → IsFacts t f
    → AreTold (take i traces) (clocks_under machines told) → Appends machines t f.verdict.fault told new → AreTold (take (i + 1) traces) (clocks_under machines new)
told_more traces machines i t f told new at known h a = record {
  each = h.each ++ one ∷ [];
  by = subst (λ (ts : List PlainTrace). AllZip IsTold ts (h.each ++ one ∷ [])) (sym (take_more traces i t (slice_get_within traces i t at)))
      (zip_push IsTold (take i traces) h.each (get_or traces i t) one h.by (subst (λ (u : PlainTrace). IsTold u one) (sym (get_or_from_slice_get traces i t t at)) mine));
  joined = a.joined ∙ ap (λ (ns : List NamedClock). ns ++ one) h.joined ∙ sym ends;
}
  where
    one : List NamedClock
    one = map (named_clock t.events) a.clocks

    mine : IsTold t one
    mine = record { facts = f; known = known; clocks = a.clocks; are = a.are; named = refl }

    ends : flat_map (λ (ns : List NamedClock). ns) (h.each ++ one ∷ []) ≡ flat_map (λ (ns : List NamedClock). ns) h.each ++ one
    ends =
        flat_map-append (λ (ns : List NamedClock). ns) h.each (one ∷ [])
        ∙ ap (λ (ns : List NamedClock). flat_map (λ (ms : List NamedClock). ms) h.each ++ ns) (flat_map-cons (λ (ns : List NamedClock). ns) one [] ∙ append-nil one)

pub told_all : (traces : List PlainTrace) (machines : List (List ℕ)) (i : ℕ) (told : List NumberedClock) → length traces ≤ i → AreTold (take i traces) (clocks_under machines told) → AreTold traces (clocks_under machines told)
told_all traces machines i told ge h = subst (λ (ts : List PlainTrace). AreTold ts (clocks_under machines told)) (take_all i traces ge) h
