-- The first trace that figures name is the first kept trace that refutes the relation.
use Rattle.std.proofs.Common.{◌≡◌, ◌≢◌, ◌↔◌, ℕ, zero, suc, ◌+◌, ◌<◌, Bool, true, false, cond, Some, List, [], ◌∷◌, ◌++◌, length, get_or, slice_get, take, count_by, All, Contains, refl, sym, ap, ◌∙◌, subst, arith}
use Rattle.std.specs.List.{AllZip}
use Rattle.std.proofs.lemmas.List.Elements.{Contains-get_or}
use Rattle.std.proofs.lemmas.List.Sums.{sum_by-cons}
use Rattle.std.proofs.lemmas.Option.{same_Some, slice_get_within}
use Rattle.certificates.specs.declared.matter.Matter.{Matter}
use Rattle.certificates.specs.declared.matter.Matter.TheVariants.{Before, Exclusive, Pipe}
use Rattle.certificate_rows.proofs.ElementLemmas.{get_from_take}
use Rattle.evidence_laws.specs.FirstLaws.{IsFirstWith}
use Rattle.evidence_laws.proofs.FirstLemmas.{first_both_is_first, first_early_is_first}
use Rattle.evidence_rules.specs.RowTexts.{fields_at}
use Rattle.evidence_rules.specs.Sharings.{AreVerdicts, first_true}
use Rattle.segment_names.specs.Known.{same_name}
use Rattle.session_rules.specs.EvidenceTexts.{place_fields}
use Rattle.session_rules.specs.KeptTraces.{Kept, by_kept, day_of, traces_on}
use Rattle.session_rules.specs.Refutations.{IsFirstToRefute, RefutesMatter}
use Rattle.trace_types.specs.Pipelines.{RefutesPipe}
use Rattle.trace_types.specs.Refuting.{RefutesBefore, RefutesExclusive}
use Rattle.evidence_printing.specs.WitnessLaws.{ExclusionsHaveWitnesses, IsWitness, OrdersHaveWitnesses, PipesHaveWitnesses}
use Rattle.evidence_printing.proofs.PlaceLemmas.{fields}
use Rattle.evidence_printing.proofs.ShownLemmas.{same_names}

split_at : {X : Type 0} (xs : List X) (i : ℕ) (x : X) → slice_get xs i ≡ Some x → (back : List X) × (xs ≡ take i xs ++ x ∷ back)
split_at [] i x e = let lt = slice_get_within [] i x e in absurd (omega arith)
split_at (y ∷ ys) zero x e = (ys, ap (λ v. v ∷ ys) (same_Some y x e))
split_at (y ∷ ys) (suc i) x e = let s = split_at ys i x e in (s.0, ap (λ l. y ∷ l) s.1)

module _ (kept : List Kept) (matter : Matter) (P : Kept → Type 0) (means : (k : Kept) → P k ↔ RefutesMatter matter k) (index : ℕ) (is : IsFirstWith P kept index) where
  none_before : All (λ (b : Kept). RefutesMatter matter b → ⊥) (take index kept)
  none_before i d lt refutes =
      let b = get_or (take index kept) i d in
      let p = get_from_take kept index b (Contains-get_or (take index kept) i d lt) in
      is.first p.0 b p.1 p.2 ((means b).1 refutes)

  pub witness : IsWitness kept matter index
  witness =
      let split = split_at kept index is.trace is.at in
      record {
        trace = is.trace;
        at = length (traces_on (day_of is.trace) (take index kept));
        first = record {
          before = take index kept;
          after = split.0;
          split = split.1;
          refutes = (means is.trace).0 is.has;
          first = none_before;
          counted = refl;
        };
        named = ap (fields_at (fields (take index kept))) is.at;
      }

pub orders_witnessed : OrdersHaveWitnesses
orders_witnessed kept a b f differ are some = witness kept (Before a b) (RefutesBefore by_kept a b) (λ k. ((λ r. (differ, r)), (λ r. r.1))) f.first_early (first_early_is_first by_kept same_name same_names kept a b f are some)

pub exclusions_witnessed : ExclusionsHaveWitnesses
exclusions_witnessed kept a b f differ are some = witness kept (Exclusive a b) (RefutesExclusive by_kept a b) (λ k. ((λ r. (differ, r)), (λ r. r.1))) f.first_both (first_both_is_first by_kept same_name same_names kept a b f are some)

-- ---- verdicts
later : {A : Type 0} (P : A → Type 0) (x : A) (xs : List A) (k : ℕ) → (P x → ⊥) → IsFirstWith P xs k → IsFirstWith P (x ∷ xs) (suc k)
later {A} P x xs k none r = record {
  trace = r.trace;
  at = r.at;
  has = r.has;
  first = λ i t lt at is. by i t lt at is;
}
  where
    by : (i : ℕ) (t : A) → i < suc k → slice_get (x ∷ xs) i ≡ Some t → P t → ⊥
    by zero t lt at is = none (subst P (sym (same_Some x t at)) is)
    by (suc i) t lt at is = r.first i t (omega (arith, lt)) at is

first_verdict : {A : Type 0} (P : A → Type 0) (xs : List A) (vs : List Bool) → AreVerdicts P xs vs → 0 < count_by (λ (v : Bool). v) vs → IsFirstWith P xs (first_true vs)
first_verdict P [] [] z l = absurd (omega arith)
first_verdict P [] (v ∷ vs) z l = absurd z
first_verdict P (x ∷ xs) [] z l = absurd z
first_verdict P (x ∷ xs) (true ∷ vs) z l = record { trace = x; at = refl; has = z.0.0 refl; first = λ i t lt at is. absurd (omega (arith, lt)) }
first_verdict P (x ∷ xs) (false ∷ vs) z l =
    let e = sum_by-cons (λ (v : Bool). cond v 1 0) false vs in
    let r = first_verdict P xs vs z.1 (omega (arith, l, e)) in
    let same : suc (first_true vs) ≡ first_true vs + 1 = omega arith in
    subst (IsFirstWith P (x ∷ xs)) same (later P x xs (first_true vs) (λ h. let f : false ≡ true = z.0.1 h in cc) r)

pub pipes_witnessed : PipesHaveWitnesses
pipes_witnessed kept t u f differ are some =
    let first = first_verdict (RefutesPipe by_kept t u) kept are.refuted are.refute (subst (λ (n : ℕ). 0 < n) are.refuted_are some) in
    witness kept (Pipe t u) (RefutesPipe by_kept t u) (λ k. ((λ r. (differ, r)), (λ r. r.1))) f.first_refuted (subst (IsFirstWith (RefutesPipe by_kept t u) kept) (sym are.first) first)
