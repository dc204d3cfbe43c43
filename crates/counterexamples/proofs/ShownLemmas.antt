-- The traces of a day, found day by day, and what they show.
use Rattle.std.proofs.Common.{◌≡◌, ◌↔◌, ℕ, zero, suc, ◌+◌, ◌≤◌, Bool, true, false, ◌==◌, List, [], ◌∷◌, length, drop, Some, None, arith, refl, sym, ap, ◌∙◌, subst}
use Rattle.std.specs.Prelude.{option_map, slice_get}
use Rattle.std.proofs.lemmas.Bool.{eq-eqb, ne_eqb}
use Rattle.std.proofs.lemmas.Option.{same_Some}
use Rattle.day_partitions.specs.Books.{KeptDay, traces_kept_on}
use Rattle.trace_types.specs.declared.named_trace.NamedTrace.{NamedTrace}
use Rattle.certificates.specs.declared.claim.Claim.{Claim}
use Rattle.hypothesis_index.specs.Refuting.{Refutes}
use Rattle.hypothesis_index.specs.declared.relation.Relation.{Relation}
use Rattle.segment_names.specs.Known.{Known}
use Rattle.counterexamples.specs.ShownClaims.{IsShownClaim, relation_of}

-- the day at this place is the one
pub traces_here : (days : List KeptDay) (place day n : ℕ) (traces : List NamedTrace) → option_map (λ (k : KeptDay). k.day) (slice_get days place) ≡ Some n → n ≡ day → option_map (λ (k : KeptDay). k.traces) (slice_get days place) ≡ Some traces → traces_kept_on (drop place days) day ≡ traces
traces_here [] place day n traces at is are = absurd (none_some at)
  where
    none_some : None ≡ Some n → ⊥
    none_some e = cc
traces_here (k ∷ ks) zero day n traces at is are =
    let same : k.day ≡ n = same_Some k.day n at in
    let e : (k.day == day) ≡ true = eq-eqb k.day day (same ∙ is) in
    rw e (same_Some k.traces traces are)
traces_here (k ∷ ks) (suc place) day n traces at is are = traces_here ks place day n traces at is are

-- it is another one
after_later : (days : List KeptDay) (place day n : ℕ) → option_map (λ (k : KeptDay). k.day) (slice_get days place) ≡ Some n → (n ≡ day → ⊥) → traces_kept_on (drop place days) day ≡ traces_kept_on (drop (suc place) days) day
after_later [] place day n at is = absurd (none_some at)
  where
    none_some : None ≡ Some n → ⊥
    none_some e = cc
after_later (k ∷ ks) zero day n at is =
    let same : k.day ≡ n = same_Some k.day n at in
    let e : (k.day == day) ≡ false = ne_eqb k.day day (λ h. is (sym same ∙ h)) in
    rw e refl
after_later (k ∷ ks) (suc place) day n at is = after_later ks place day n at is

pub traces_later : (days : List KeptDay) (place day n : ℕ) → option_map (λ (k : KeptDay). k.day) (slice_get days place) ≡ Some n → (n ≡ day → ⊥) → traces_kept_on (drop place days) day ≡ traces_kept_on (drop (place + 1) days) day
traces_later days place day n at is =
    let next : suc place ≡ place + 1 = omega arith in
    subst (λ (m : ℕ). traces_kept_on (drop place days) day ≡ traces_kept_on (drop m days) day) next (after_later days place day n at is)

-- no day is left
pub traces_nowhere : (days : List KeptDay) (place day : ℕ) → length days ≤ place → traces_kept_on (drop place days) day ≡ []
traces_nowhere [] zero day h = refl
traces_nowhere [] (suc place) day h = refl
traces_nowhere (k ∷ ks) zero day h = absurd (omega arith)
traces_nowhere (k ∷ ks) (suc place) day h = traces_nowhere ks place day (omega arith)

-- ---- a claim whose relation and trace are found

module _ (known : Known) (days : List KeptDay) (claim : Claim) (r : Relation) (t : NamedTrace) (b : Bool) where
  pub shown_iff : relation_of known claim.matter ≡ Some r → slice_get (traces_kept_on days claim.day) claim.index ≡ Some t → t.request ≡ claim.request → (b ≡ true) ↔ Refutes r t → (b ≡ true) ↔ IsShownClaim known days claim
  shown_iff numbered stands request tells = (
    (λ e. record { relation = r; numbered = numbered; trace = t; stands = stands; request = request; refutes = tells.0 e }),
    (λ s.
        let relation : s.relation ≡ r = same_Some s.relation r (sym s.numbered ∙ numbered) in
        let trace : s.trace ≡ t = same_Some s.trace t (sym s.stands ∙ stands) in
        tells.1 (subst (λ (x : Relation). Refutes x t) relation (subst (λ (u : NamedTrace). Refutes s.relation u) trace s.refutes))),
  )

  pub other_request : slice_get (traces_kept_on days claim.day) claim.index ≡ Some t → (t.request ≡ claim.request → ⊥) → b ≡ false → (b ≡ true) ↔ IsShownClaim known days claim
  other_request stands differ is_false = (
    (λ e. absurd (let g : false ≡ true = sym is_false ∙ e in cc)),
    (λ s. let trace : s.trace ≡ t = same_Some s.trace t (sym s.stands ∙ stands) in absurd (differ (ap (λ (u : NamedTrace). u.request) (sym trace) ∙ s.request))),
  )
