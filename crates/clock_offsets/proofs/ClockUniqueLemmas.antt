-- A trace has its clocks in one way.
use Rattle.std.proofs.Common.{◌≡◌, ◌↔◌, ℕ, suc, ◌<◌, ℤ, ◌+ℤ◌, List, AllPairs, Contains, length, get_or, arith, refl, sym, subst, ap, ◌∙◌, Ordering, nat_cmp}
use Rattle.std.specs.Cmp.{IsTotalOrder, nat_cmp_is}
use Rattle.std.specs.List.Sorted.{IsStrictlyIncreasing}
use Rattle.std.specs.declared.cmp.Ordering.TheVariants.{Less}
use Rattle.std.proofs.lemmas.Cmp.{nat_cmp_total}
use Rattle.std.proofs.lemmas.List.{ext_get_or, get_or-map, length-map}
use Rattle.std.proofs.lemmas.List.Kept.{AllPairs-from_increasing}
use Rattle.trace_types.specs.declared.event.Event.{Event}
use Rattle.trace_types.specs.Events.{machine_at}
use Rattle.clock_offsets.specs.declared.machine_clock.Clock.{Clock}
use Rattle.clock_offsets.specs.declared.machine_clock.Clock.TheVariants.{Unreachable, Reached}
use Rattle.clock_offsets.specs.declared.machine_clock.MachineClock.{MachineClock}
use Rattle.clock_offsets.specs.MachineClocks.{AreMachineClocks, IsClock, IsFirstOfOther, IsReached, IsRoundTrip, firsts_in}
use Rattle.clock_offsets.specs.Offsets.{IsParent}
use Rattle.clock_offsets.proofs.UniqueLemmas.{IsOffset-unique, depth_unique, least_unique, parent_unique}

round_unique : (events : List Event) (m n : List ℕ) (r s : ℤ) → IsRoundTrip events m n r → IsRoundTrip events m n s → r ≡ s
round_unique events m n r s (f, g, lf, lg, is) (f', g', lf', lg', is') =
    let ef : f ≡ f' = least_unique events m n f f' lf lf' in
    let eg : g ≡ g' = least_unique events n m g g' lg lg' in
    is ∙ (λ i. ef i +ℤ eg i) ∙ sym is'

reached_unique : (events : List Event) (m : List ℕ) (o p r s : ℤ) → IsReached events m o r → IsReached events m p s → (o ≡ p) × (r ≡ s)
reached_unique events m o p r s a b =
    let above : suc a.depth ≡ suc b.depth = depth_unique events (suc a.depth) (suc b.depth) m a.child.child b.child.child in
    let depth : a.depth ≡ b.depth = omega arith in
    let parent : a.parent ≡ b.parent = parent_unique events b.depth a.parent b.parent m (subst (λ (k : ℕ). IsParent events k a.parent m) depth a.child) b.child in
    (IsOffset-unique events m o p a.offset b.offset, round_unique events b.parent m r s (subst (λ (q : List ℕ). IsRoundTrip events q m r) parent a.round) b.round)

clock_unique : (events : List Event) (m : List ℕ) (c d : Clock) → IsClock events m c → IsClock events m d → c ≡ d
clock_unique events m Unreachable Unreachable a b = refl
clock_unique events m Unreachable (Reached o r) a b = absurd (a (suc b.depth) b.child.child.0)
clock_unique events m (Reached o r) Unreachable a b = absurd (b (suc a.depth) a.child.child.0)
clock_unique events m (Reached o r) (Reached p s) a b = let e = reached_unique events m o p r s a b in λ i. Reached (e.0 i) (e.1 i)

rising_less : (xs : List ℕ) → IsStrictlyIncreasing xs → AllPairs (λ x y. nat_cmp x y ≡ Less) xs
rising_less xs rises i j d lt within = sym (nat_cmp_is (get_or xs i d) (get_or xs j d) Less (AllPairs-from_increasing xs rises i j d lt within))

nowhere : MachineClock
nowhere = record { first = 0; clock = Unreachable }

module _ (events : List Event) (one : (cmp : ℕ → ℕ → Ordering) → IsTotalOrder cmp → (xs ys : List ℕ) → AllPairs (λ x y. cmp x y ≡ Less) xs → AllPairs (λ x y. cmp x y ≡ Less) ys → ((x : ℕ) → Contains xs x ↔ Contains ys x) → xs ≡ ys) where
  -- a first event of the one list is one of the other
  among : (a b : List MachineClock) → AreMachineClocks events a → AreMachineClocks events b → (k : ℕ) → Contains (firsts_in a) k → Contains (firsts_in b) k
  among a b h g k (i, lt, is) =
      let within : i < length a = let long = length-map a (λ (c : MachineClock). c.first) in omega arith in
      let at : get_or (firsts_in a) i k ≡ (get_or a i nowhere).first = get_or-map (λ (c : MachineClock). c.first) a i nowhere k within in
      g.all k (subst (IsFirstOfOther events) (sym at ∙ is) (h.each i nowhere within).first)

  pub clocks_unique : (a b : List MachineClock) → AreMachineClocks events a → AreMachineClocks events b → a ≡ b
  clocks_unique a b h g = ext_get_or nowhere a b long each
    where
      firsts : firsts_in a ≡ firsts_in b
      firsts = one nat_cmp nat_cmp_total (firsts_in a) (firsts_in b) (rising_less (firsts_in a) h.rising) (rising_less (firsts_in b) g.rising) (λ k. (among a b h g k, among b a g h k))

      long : length a ≡ length b
      long = sym (length-map a (λ (c : MachineClock). c.first)) ∙ ap length firsts ∙ length-map b (λ (c : MachineClock). c.first)

      each : (i : ℕ) → i < length a → get_or a i nowhere ≡ get_or b i nowhere
      each i lt =
          let lt_b : i < length b = omega (arith, long, lt) in
          let c = get_or a i nowhere in
          let d = get_or b i nowhere in
          let first : c.first ≡ d.first = sym (get_or-map (λ (c : MachineClock). c.first) a i nowhere 0 lt) ∙ ap (λ (ks : List ℕ). get_or ks i 0) firsts ∙ get_or-map (λ (c : MachineClock). c.first) b i nowhere 0 lt_b in
          let told : IsClock events (machine_at events d.first) c.clock = subst (λ (k : ℕ). IsClock events (machine_at events k) c.clock) first (h.each i nowhere lt).clock in
          let clock : c.clock ≡ d.clock = clock_unique events (machine_at events d.first) c.clock d.clock told (g.each i nowhere lt_b).clock in
          λ j. record { first = first j; clock = clock j }
