-- What the bit of a relation tells.
use Rattle.std.proofs.Common.{◌≡◌, ℕ, ◌<◌, ◌≤◌, ◌↔◌, min, max, nat_eq, List, length, get_or, IsTrue, refl, sym, ◌∙◌, subst, ⊎_elim, arith}
use Rattle.std.proofs.lemmas.Bool.{cases_lt, eq-eqb, eqb-true}
use Rattle.std.proofs.lemmas.List.{get_or_default}
use Rattle.std.proofs.lemmas.List.Elements.{All-contains}
use Rattle.std.proofs.lemmas.Nat.Bits.{bit_at-lt}
use Rattle.hypothesis_index.specs.declared.relation.Relation.{Relation}
use Rattle.hypothesis_index.specs.declared.relation.Relation.TheVariants.{Exclusive}
use Rattle.hypothesis_index.specs.Places.{IsRelation, NamesBelow, place_of, width_of}
use Rattle.hypothesis_index.specs.Refuting.{Refutes}
use Rattle.trace_types.specs.Parts.{by_number}
use Rattle.trace_types.specs.Refuting.{RefutesExclusive}
use Rattle.trace_types.specs.Surviving.{Survives, IsRefuted}
use Rattle.trace_types.specs.declared.named_trace.NamedTrace.{NamedTrace}
use Rattle.word_rows.proofs.CloseLemmas.{one_bit}
use Rattle.word_rows.proofs.OpeningLemmas.{one_not_zero}
use Rattle.model_meet.specs.ExclusionTables.{TellsExclusions}
use Rattle.model_meet.specs.ModelStates.{ModelState}
use Rattle.model_meet.specs.RelationBits.{relation_bit}
use Rattle.model_meet.specs.Telling.{WordsTell}

-- what no element has, each lacks
pub none_survive : {A : Type 0} (P : A → Type 0) (xs : List A) → (IsRefuted P xs → ⊥) → Survives P xs
none_survive P xs none k d lt p = none (k, get_or xs k d, lt, get_or_default xs k (get_or xs k d) d lt, p)

pub both_ways : {A : Type 0} (P : A → Type 0) (xs : List A) → Survives P xs → IsRefuted P xs → ⊥
both_ways P xs survives a = All-contains (λ t. P t → ⊥) xs a.1 survives (a.0, a.2, a.3) a.4

pub told_by_places : ((r s : Relation) → IsRelation r → IsRelation s → place_of r ≡ place_of s → r ≡ s)
    → ((names : ℕ) (r : Relation) → names ≤ 512 → IsRelation r → NamesBelow names r → ((place_of r).word < width_of names) × ((place_of r).bit < 64))
    → WordsTell
told_by_places differ fit traces words names few wide tells r v below =
    let f = fit names r few v below in
    let inside : (place_of r).word < length words = subst (λ (k : ℕ). (place_of r).word < k) (sym wide) f.0 in
    let at = tells.bits (place_of r).word (place_of r).bit inside f.1 in
    let to : relation_bit words r ≡ 0 → IsRefuted (Refutes r) traces = λ z. let p = at.0 z in subst (λ (s : Relation). IsRefuted (Refutes s) traces) (differ p.0 r p.1 v p.2) p.3 in
    let from : IsRefuted (Refutes r) traces → relation_bit words r ≡ 0 = λ h. at.1 (r, v, refl, h) in
    record {
      survives = (
        (λ one. none_survive (Refutes r) traces (λ h. one_not_zero (relation_bit words r) one (from h))),
        (λ s. one_bit (relation_bit words r) (bit_at-lt _ (place_of r).bit) (λ z. both_ways (Refutes r) traces s (to z))),
      );
      refuted = (to, from);
    }

pub tested : {A : Type 0} (b n k : ℕ) → b ≡ n → (n ≡ k) ↔ A → IsTrue (nat_eq b k) ↔ A
tested b n k e h = ((λ t. h.0 (sym e ∙ eqb-true b k t)), (λ a. eq-eqb b k (e ∙ h.1 a)))

pub iff_then : {A B C : Type 0} → A ↔ B → B ↔ C → A ↔ C
iff_then h g = ((λ a. g.0 (h.0 a)), (λ c. h.1 (g.1 c)))

-- relations that each trace refutes alike
pub survive_alike : {A : Type 0} (P Q : A → Type 0) → ((x : A) → P x ↔ Q x) → (xs : List A) → Survives P xs ↔ Survives Q xs
survive_alike P Q same xs = ((λ s k d lt q. s k d lt ((same (get_or xs k d)).1 q)), (λ s k d lt p. s k d lt ((same (get_or xs k d)).0 p)))

pub refuted_alike : {A : Type 0} (P Q : A → Type 0) → ((x : A) → P x ↔ Q x) → (xs : List A) → IsRefuted P xs ↔ IsRefuted Q xs
refuted_alike P Q same xs = ((λ a. (a.0, a.1, a.2, a.3, (same a.1).0 a.4)), (λ a. (a.0, a.1, a.2, a.3, (same a.1).1 a.4)))

module _ {A : Type 0} (R : ℕ → ℕ → A → Type 0) (symmetric : (a b : ℕ) (t : A) → R a b t ↔ R b a t) where
  at_these : (low high a b : ℕ) → low ≡ a → high ≡ b → (t : A) → R low high t ↔ R a b t
  at_these low high a b e f t = (
    (λ r. subst (λ (k : ℕ). R a k t) f (subst (λ (k : ℕ). R k high t) e r)),
    (λ r. subst (λ (k : ℕ). R k high t) (sym e) (subst (λ (k : ℕ). R a k t) (sym f) r)),
  )

  -- the order of the two does not matter
  unordered : (low high a b : ℕ) → low ≡ min a b → high ≡ max a b → (t : A) → R low high t ↔ R a b t
  unordered low high a b e f t = ⊎_elim
      (λ (h : a < b). let l : low ≡ a = omega arith in let g : high ≡ b = omega arith in at_these low high a b l g t)
      (λ (h : b ≤ a). let l : low ≡ b = omega arith in let g : high ≡ a = omega arith in iff_then (at_these low high b a l g t) (symmetric b a t))
      (cases_lt a b)

  pub survive_unordered : (low high a b : ℕ) → low ≡ min a b → high ≡ max a b → (traces : List A) → Survives (R low high) traces ↔ Survives (R a b) traces
  survive_unordered low high a b e f traces = survive_alike (R low high) (R a b) (unordered low high a b e f) traces

  pub refuted_unordered : (low high a b : ℕ) → low ≡ min a b → high ≡ max a b → (traces : List A) → IsRefuted (R low high) traces ↔ IsRefuted (R a b) traces
  refuted_unordered low high a b e f traces = refuted_alike (R low high) (R a b) (unordered low high a b e f) traces

-- the bits of mutual exclusions tell which of them survive
pub exclusions_told : (model : ModelState) → WordsTell → model.names ≤ 512 → length model.words ≡ width_of model.names → ((a b : ℕ) (t : NamedTrace) → RefutesExclusive by_number a b t ↔ RefutesExclusive by_number b a t) → TellsExclusions model
exclusions_told model tell few wide symmetric traces s a b differ first second =
    let rises : min a b < max a b = omega (arith, differ) in
    let below : max a b < model.names = omega arith in
    let told = tell traces model.words model.names few wide s (Exclusive (min a b) (max a b)) (rises, omega arith) below in
    iff_then told.survives (survive_unordered (RefutesExclusive by_number) symmetric (min a b) (max a b) a b refl refl traces)
