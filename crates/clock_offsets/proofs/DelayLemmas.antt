-- The least delays, event by event.
use Rattle.std.proofs.Common.{◌≡◌, ℕ, ◌+◌, ◌<◌, ℤ, ◌≤ℤ◌, Bool, true, false, cond, Option, Some, None, List, [], length, arith, refl, sym, subst, ap, ◌∙◌, ⊎_elim, inl, inr, ◌⊎◌}
use Rattle.std.specs.BTreeMap.{BTreeMap, get, is_at, IsOrdered}
use Rattle.std.specs.Map.{lookup}
use Rattle.std.specs.Cmp.{IsTotalOrder}
use Rattle.std.specs.Int.{int_min}
use Rattle.std.specs.Prelude.{int_lt}
use Rattle.std.specs.Ordering.{nat_cmp}
use Rattle.std.proofs.lemmas.Bool.{false≢true}
use Rattle.std.proofs.lemmas.Cmp.{nat_cmp_total, tied_itself, then_total, on_total}
use Rattle.std.proofs.lemmas.Int.{ints, clamps}
use Rattle.std.proofs.lemmas.Map.Lookups.{exact_unsigned}
use Rattle.trace_types.specs.declared.event.Event.{Event}
use Rattle.trace_types.proofs.ComparingLemmas.{then_equal}
use Rattle.clock_offsets.specs.declared.message.Message.{Message}
use Rattle.clock_offsets.specs.inner.Links.{AreNumbers}
use Rattle.clock_offsets.specs.inner.Delays.{IsEventAt, HasNoSender, IsReceived, HasDelay, way_cmp, least_in, AreLeast, AreLeastDelays}
use Rattle.clock_offsets.proofs.MessageLemmas.{HasDelayTo, delay_more, now_of, delay_skip, delay_push}

pub way_exact : (v w a b : ℕ) → is_at (way_cmp (v, w)) (a, b) ≡ true → (v ≡ a) × (w ≡ b)
way_exact v w a b h = let e = then_equal (nat_cmp v a) (nat_cmp w b) h in (exact_unsigned v a e.0, exact_unsigned w b e.1)

pub way_itself : (v w : ℕ) → is_at (way_cmp (v, w)) (v, w) ≡ true
way_itself v w = rw (tied_itself nat_cmp_total v, tied_itself nat_cmp_total w)

pub way_same : (v w a b : ℕ) → v ≡ a → w ≡ b → is_at (way_cmp (v, w)) (a, b) ≡ true
way_same v w a b e f = subst (λ (x : ℕ). is_at (way_cmp (v, w)) (x, b) ≡ true) e (subst (λ (y : ℕ). is_at (way_cmp (v, w)) (v, y) ≡ true) f (way_itself v w))

-- ways are in a total order, and those that compare equal are equal
pub way_total : IsTotalOrder way_cmp
way_total = then_total (on_total (λ (w : ℕ × ℕ). w.0) nat_cmp_total) (on_total (λ (w : ℕ × ℕ). w.1) nat_cmp_total)

-- t is what the map gets for a message's way: what it took, or the least of that and what the map has
abbrev pub IsLower : Option ℤ → ℤ → ℤ → Type 0
IsLower None took t = t ≡ took
IsLower (Some had) took t = t ≡ int_min took had

-- a delay more, of the way from v to w
module _ (D E : ℕ → ℕ → ℤ → Type 0) (from to : ℕ) (took : ℤ) (grows : (v w : ℕ) (d : ℤ) → D v w d → E v w d) (here : E from to took) (cases : (v w : ℕ) (d : ℤ) → E v w d → D v w d ⊎ ((from ≡ v) × (to ≡ w) × (took ≡ d))) where
  pub least_push : (m w : BTreeMap (ℕ × ℕ) ℤ) (t : ℤ) → AreLeast D m → IsLower (least_in m from to) took t → IsOrdered way_cmp w
      → ((q : ℕ × ℕ) → get way_cmp w q ≡ cond (is_at (way_cmp (from, to)) q) (Some t) (get way_cmp m q)) → AreLeast E w
  least_push m w t a lower ordered put = record {
    ordered = ordered;
    some = λ v u d h. some v u d (is_at (way_cmp (from, to)) (v, u)) refl (sym (put (v, u)) ∙ h);
    none = λ v u d h way. none v u d way (is_at (way_cmp (from, to)) (v, u)) refl (sym (put (v, u)) ∙ h);
  }
    where
      now : (o : Option ℤ) → least_in m from to ≡ o → IsLower o took t → E from to t × ((e : ℤ) → E from to e → t ≤ℤ e)
      now None o l = (
        subst (λ (d : ℤ). E from to d) (sym l) here,
        λ e way.
            ⊎_elim
            (λ (old : D from to e). absurd (a.none from to e o old))
            (λ (new : (from ≡ from) × (to ≡ to) × (took ≡ e)). let is : took ≡ e = new.2 in omega (arith, ints))
            (cases from to e way),
      )
      now (Some had) o l =
          let old = a.some from to had o in (
            min_way had old.0 (by_min took had t l),
            λ e way.
                ⊎_elim
                (λ (older : D from to e). let low : had ≤ℤ e = old.1 e older in let is : t ≡ int_min took had = l in omega (arith, ints, clamps))
                (λ (new : (from ≡ from) × (to ≡ to) × (took ≡ e)). let e_is : took ≡ e = new.2 in let is : t ≡ int_min took had = l in omega (arith, ints, clamps))
                (cases from to e way),
          )
        where
          by_min : (p q r : ℤ) → r ≡ int_min p q → (p ≡ r) ⊎ (q ≡ r)
          by_min p q r is = either (int_lt q p) is
            where
              either : (b : Bool) → r ≡ cond b q p → (p ≡ r) ⊎ (q ≡ r)
              either true e = inr (sym e)
              either false e = inl (sym e)

          min_way : (had : ℤ) → D from to had → (took ≡ t) ⊎ (had ≡ t) → E from to t
          min_way had old h = ⊎_elim
              (λ (new : took ≡ t). subst (λ (d : ℤ). E from to d) new here)
              (λ (same : had ≡ t). subst (λ (d : ℤ). E from to d) same (grows from to had old))
              h

      some : (v u : ℕ) (d : ℤ) (b : Bool) → is_at (way_cmp (from, to)) (v, u) ≡ b → cond b (Some t) (least_in m v u) ≡ Some d → E v u d × ((e : ℤ) → E v u e → d ≤ℤ e)
      some v u d true e h =
          let same = way_exact from to v u e in
          let d_is : t ≡ d = cc in
          let all = now (least_in m from to) refl lower in
          subst (λ (y : ℤ). E v u y × ((z : ℤ) → E v u z → y ≤ℤ z)) d_is
          (subst (λ (p : ℕ). E p u t × ((z : ℤ) → E p u z → t ≤ℤ z)) same.0
          (subst (λ (q : ℕ). E from q t × ((z : ℤ) → E from q z → t ≤ℤ z)) same.1 all))
      some v u d false e h =
          let old = a.some v u d h in (
            grows v u d old.0,
            λ z way. ⊎_elim
                (λ (older : D v u z). old.1 z older)
                (λ (new : (from ≡ v) × (to ≡ u) × (took ≡ z)). absurd (false≢true (sym e ∙ way_same from to v u new.0 new.1)))
                (cases v u z way),
          )

      none : (v u : ℕ) (d : ℤ) → E v u d → (b : Bool) → is_at (way_cmp (from, to)) (v, u) ≡ b → cond b (Some t) (least_in m v u) ≡ None → ⊥
      none v u d way true e h = cc
      none v u d way false e h = ⊎_elim
          (λ (older : D v u d). a.none v u d h older)
          (λ (new : (from ≡ v) × (to ≡ u) × (took ≡ d)). false≢true (sym e ∙ way_same from to v u new.0 new.1))
          (cases v u d way)

-- where the delays are the same, so are the least ones
pub least_same : (D E : ℕ → ℕ → ℤ → Type 0) (m : BTreeMap (ℕ × ℕ) ℤ) → ((v w : ℕ) (d : ℤ) → D v w d → E v w d) → ((v w : ℕ) (d : ℤ) → E v w d → D v w d) → AreLeast D m → AreLeast E m
least_same D E m more back a = record {
  ordered = a.ordered;
  some = λ v w d h. let s = a.some v w d h in (more v w d s.0, λ e x. s.1 e (back v w e x));
  none = λ v w d h x. a.none v w d h (back v w d x);
}

-- no event has been looked at
pub least_none : (events : List Event) (numbers : List ℕ) (m : BTreeMap (ℕ × ℕ) ℤ) → IsOrdered way_cmp m → m.entries ≡ [] → AreLeast (HasDelayTo events numbers 0) m
least_none events numbers m ordered empty = record {
  ordered = ordered;
  some = λ v w d h. let none : least_in m v w ≡ None = ap (lookup (is_at (way_cmp (v, w)))) empty in cc;
  none = λ v w d h (x, lt). absurd (omega arith);
}

-- the event at n receives nothing
pub least_skip : (events : List Event) (numbers : List ℕ) (n : ℕ) (e : Event) (m : BTreeMap (ℕ × ℕ) ℤ) → AreNumbers events numbers → IsEventAt events n e → HasNoSender events e → AreLeast (HasDelayTo events numbers n) m → AreLeast (HasDelayTo events numbers (n + 1)) m
least_skip events numbers n e m a here none least = least_same (HasDelayTo events numbers n) (HasDelayTo events numbers (n + 1)) m (delay_more events numbers n) (λ v w d h. delay_skip events numbers n v w d e a here none h) least

-- it receives a message
pub least_next : (events : List Event) (numbers : List ℕ) (n : ℕ) (e : Event) (x : Message) (m w : BTreeMap (ℕ × ℕ) ℤ) (t : ℤ) → AreNumbers events numbers → IsEventAt events n e → IsReceived events numbers n e x → AreLeast (HasDelayTo events numbers n) m
    → IsLower (least_in m x.from x.to) x.delay t → IsOrdered way_cmp w → ((q : ℕ × ℕ) → get way_cmp w q ≡ cond (is_at (way_cmp (x.from, x.to)) q) (Some t) (get way_cmp m q)) → AreLeast (HasDelayTo events numbers (n + 1)) w
least_next events numbers n e x m w t a here got least = least_push (HasDelayTo events numbers n) (HasDelayTo events numbers (n + 1)) x.from x.to x.delay (delay_more events numbers n) (now_of events numbers n e x a here got)
    (λ v u d h. delay_push events numbers n v u d e x a here got h.0.0 h.0.1 h) m w t least

-- all events have been looked at
pub least_done : (events : List Event) (numbers : List ℕ) (n : ℕ) (m : BTreeMap (ℕ × ℕ) ℤ) → n ≡ length events → AreLeast (HasDelayTo events numbers n) m → AreLeastDelays events numbers m
least_done events numbers n m all = least_same (HasDelayTo events numbers n) (HasDelay events numbers) m (λ v w d h. h.0) (λ v w d h. (h, let lt : h.2.receives.0 < length events = h.2.receives.1 in omega arith))
