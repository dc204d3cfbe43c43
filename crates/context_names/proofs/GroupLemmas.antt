-- The first ones of groups.
use Rattle.std.proofs.Common.{◌≡◌, ◌≢◌, ◌⊎◌, inl, inr, ◌||◌, ℕ, ◌+◌, ◌<◌, ◌≤◌, List, [], ◌∷◌, ◌++◌, Bool, true, false, length, get_or, set, take, replicate, refl, sym, ap, ◌∙◌, arith, eq-eqb, eqb}
use Rattle.std.specs.Prelude.{if◌then◌else◌, nat_eq, slice_index}
use Rattle.std.specs.List.{list_any}
use Rattle.std.proofs.lemmas.Bool.{cases_eq, eqb-true, ne_eqb}
use Rattle.std.proofs.lemmas.List.{get_or-replicate, get_or-set_other, get_or-set_same, length-replicate, length-set, take_all, take_more}
use Rattle.std.proofs.lemmas.List.Folds.{list_any-append}
use Rattle.trace_types.specs.Firsts.{firsts_of}
use Rattle.span_requests.proofs.FirstLemmas.{firsts-push}
use Rattle.context_names.specs.Pieces.{are_of_one_group}

-- these are the first ones of their groups in a list, and no other group is seen
pub record AreFirstTo (groups list first : List ℕ) (is_seen : List Bool) : Type 0 where
  pub firsts : first ≡ firsts_of (are_of_one_group groups) list
  pub size : length is_seen ≡ length groups
  pub seen : (g : ℕ) → g < length groups → get_or is_seen g false ≡ list_any (λ y. eqb g (get_or groups y 0)) first

pub first_none : (groups list first : List ℕ) (is_seen : List Bool) → is_seen ≡ replicate (length groups) false → first ≡ [] → AreFirstTo groups (take 0 list) first is_seen
first_none groups list first is_seen none empty = record {
  firsts = empty;
  size = ap length none ∙ length-replicate (length groups) false;
  seen = λ g lt. ap (λ (bs : List Bool). get_or bs g false) none ∙ get_or-replicate (length groups) g false false lt ∙ ap (list_any (λ y. eqb g (get_or groups y 0))) (sym empty);
}

pub first_push : (groups list : List ℕ) (x : ℕ) → firsts_of (are_of_one_group groups) (list ++ x ∷ [])
    ≡ (if list_any (are_of_one_group groups x) (firsts_of (are_of_one_group groups) list) then firsts_of (are_of_one_group groups) list else firsts_of (are_of_one_group groups) list ++ x ∷ [])
first_push groups list x = firsts-push (slice_index groups) nat_eq (λ a b e. eqb-true a b e) (λ a. eq-eqb a a refl) list x

module _ (groups list first new : List ℕ) (is_seen next : List Bool) (i x g : ℕ) (h : AreFirstTo groups (take i list) first is_seen) (lt : i < length list) (at : x ≡ get_or list i x) (own : g ≡ get_or groups x 0) (low : g < length groups)
    (pushed : new ≡ (if get_or is_seen g false then first else first ++ x ∷ [])) (marked : next ≡ set is_seen g true) where
  was : get_or is_seen g false ≡ list_any (are_of_one_group groups x) first
  was = h.seen g low ∙ ap (λ k. list_any (λ y. eqb k (get_or groups y 0)) first) own

  now_seen : (b : Bool) → get_or is_seen g false ≡ b → (k : ℕ) → k < length groups → get_or next k false ≡ list_any (λ y. eqb k (get_or groups y 0)) (if b then first else first ++ x ∷ [])
  now_seen b e k within = ap (λ (bs : List Bool). get_or bs k false) marked ∙ by b e (cases_eq k g)
    where
      here : k ≡ g → get_or (set is_seen g true) k false ≡ true
      here same = ap (λ j. get_or (set is_seen g true) j false) same ∙ get_or-set_same is_seen g true false (omega (arith, low, h.size))

      there : k ≢ g → get_or (set is_seen g true) k false ≡ list_any (λ y. eqb k (get_or groups y 0)) first
      there other = get_or-set_other is_seen g k true false other ∙ h.seen k within

      or_none : (b c : Bool) → c ≡ false → b ≡ (b || (c || false))
      or_none true c q = refl
      or_none false c q = rw q refl

      or_right : (b c : Bool) → c ≡ true → true ≡ (b || (c || false))
      or_right true c q = refl
      or_right false c q = rw q refl

      by : (b : Bool) → get_or is_seen g false ≡ b → (k ≡ g) ⊎ (k ≢ g) → get_or (set is_seen g true) k false ≡ list_any (λ y. eqb k (get_or groups y 0)) (if b then first else first ++ x ∷ [])
      by true e (inl same) = here same ∙ sym e ∙ ap (λ j. get_or is_seen j false) (sym same) ∙ h.seen k within
      by true e (inr other) = there other
      by false e (inl same) =
          here same ∙ or_right (list_any (λ y. eqb k (get_or groups y 0)) first) (eqb k (get_or groups x 0)) (eq-eqb k (get_or groups x 0) (same ∙ own))
          ∙ sym (list_any-append (λ y. eqb k (get_or groups y 0)) first (x ∷ []))
      by false e (inr other) =
          there other ∙ or_none (list_any (λ y. eqb k (get_or groups y 0)) first) (eqb k (get_or groups x 0)) (ne_eqb k (get_or groups x 0) (λ q. other (q ∙ sym own)))
          ∙ sym (list_any-append (λ y. eqb k (get_or groups y 0)) first (x ∷ []))

  pub first_more : AreFirstTo groups (take (i + 1) list) new next
  first_more = record {
    firsts =
        pushed ∙ ap (λ b. if b then first else first ++ x ∷ []) was ∙ ap (λ (f : List ℕ). if list_any (are_of_one_group groups x) f then f else f ++ x ∷ []) h.firsts
        ∙ sym (first_push groups (take i list) x) ∙ ap (firsts_of (are_of_one_group groups)) (ap (λ z. take i list ++ z ∷ []) at ∙ sym (take_more list i x lt));
    size = ap length marked ∙ length-set is_seen g true ∙ h.size;
    seen = λ k within. now_seen (get_or is_seen g false) refl k within ∙ ap (list_any (λ y. eqb k (get_or groups y 0))) (sym pushed);
  }

pub first_all : (groups list first : List ℕ) (is_seen : List Bool) (i : ℕ) → length list ≤ i → AreFirstTo groups (take i list) first is_seen → first ≡ firsts_of (are_of_one_group groups) list
first_all groups list first is_seen i le h = h.firsts ∙ ap (firsts_of (are_of_one_group groups)) (take_all i list le)
