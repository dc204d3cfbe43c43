-- Ids in slots: one more, one less.
use Rattle.std.proofs.Common.{◌≡◌, ◌≢◌, ℕ, zero, suc, ◌<◌, List, replicate, Option, Some, None, IsSome, is_some, length, get_or, set, refl, sym, ap, ◌∙◌, subst, inl, inr}
use Rattle.std.proofs.lemmas.Bool.{cases_eq, false≢true}
use Rattle.std.proofs.lemmas.List.{get_or-set_same, get_or-set_other}
use Rattle.std.specs.FinMap.{get}
use Rattle.row_pool.specs.Pools.{Pool, IsLive, with_row, with_row_taken, without_row}
use Rattle.recording_checks.specs.inner.Holding.{AreHeld}
use Rattle.row_pool.proofs.MapLemmas.{get-remove_other}
use Rattle.row_pool.proofs.CallerLemmas.{live-with, live-insert, live-insert_same, apart-new}

none_some : {X : Type 0} (o : Option X) (x : X) → o ≡ None → o ≡ Some x → ⊥
none_some o x e f = false≢true (ap is_some (sym e ∙ f))

unwrap : ℕ → Option ℕ → ℕ
unwrap d None = d
unwrap d (Some x) = x

same_some : (x y : ℕ) → Some x ≡ Some y → x ≡ y
unfolding unwrap
same_some x y e = ap (unwrap x) e

-- a row was written
pub held-with : (p : Pool) (id : ℕ) (words : List ℕ) (slots : List (Option ℕ)) → AreHeld p slots → AreHeld (with_row p id words) slots
held-with p id words slots h = record { live = λ n i e. live-with p id words i (h.live n i e); apart = h.apart }

-- a row was taken
pub held-taken : (p : Pool) (id k : ℕ) (slots : List (Option ℕ)) → k < length slots → AreHeld p slots → get p.rows id ≡ None → AreHeld (with_row_taken p id) (set slots k (Some id))
held-taken p id k slots within h new =
    let other : (n : ℕ) → n ≢ k → get_or (set slots k (Some id)) n None ≡ get_or slots n None = λ n far. get_or-set_other slots k n (Some id) None far in
    let here : (n i : ℕ) → n ≡ k → get_or (set slots k (Some id)) n None ≡ Some i → id ≡ i = λ n i same e. same_some id i (sym (get_or-set_same slots k (Some id) None within) ∙ ap (λ j. get_or (set slots k (Some id)) j None) (sym same) ∙ e) in
    record {
      live = λ n i e. elim (cases_eq n k) [
        | inl same ↦ subst (λ j. IsLive (with_row_taken p id) j) (here n i same e) (live-insert_same p.rows id _)
        | inr far ↦ live-insert p.rows id _ i (h.live n i (sym (other n far) ∙ e))
      ];
      apart = λ m n i e f. elim (cases_eq m k) [
        | inl same ↦ elim (cases_eq n k) [
          | inl also ↦ same ∙ sym also
          | inr far ↦ absurd (apart-new p.rows id i new (h.live n i (sym (other n far) ∙ f)) (sym (here m i same e)))
        ]
        | inr far ↦ elim (cases_eq n k) [
          | inl also ↦ absurd (apart-new p.rows id i new (h.live m i (sym (other m far) ∙ e)) (sym (here n i also f)))
          | inr also ↦ h.apart m n i (sym (other m far) ∙ e) (sym (other n also) ∙ f)
        ]
      ];
    }

-- the row in one slot was given back
pub held-given : (p : Pool) (id k : ℕ) (slots : List (Option ℕ)) → k < length slots → AreHeld p slots → get_or slots k None ≡ Some id → AreHeld (without_row p id) (set slots k None)
held-given p id k slots within h there =
    let other : (n : ℕ) → n ≢ k → get_or (set slots k None) n None ≡ get_or slots n None = λ n far. get_or-set_other slots k n None None far in
    let gone : (n i : ℕ) → n ≡ k → get_or (set slots k None) n None ≡ Some i → ⊥ = λ n i same e. none_some _ i (ap (λ j. get_or (set slots k None) j None) same ∙ get_or-set_same slots k None None within) e in
    record {
      live = λ n i e. elim (cases_eq n k) [
        | inl same ↦ absurd (gone n i same e)
        | inr far ↦ let old = sym (other n far) ∙ e in
            let differ : i ≢ id = λ same. far (h.apart n k i old (there ∙ ap Some (sym same))) in
            subst (λ o. IsSome o) (sym (get-remove_other p.rows id i differ)) (h.live n i old)
      ];
      apart = λ m n i e f. elim (cases_eq m k) [
        | inl same ↦ absurd (gone m i same e)
        | inr far ↦ elim (cases_eq n k) [
          | inl also ↦ absurd (gone n i also f)
          | inr also ↦ h.apart m n i (sym (other m far) ∙ e) (sym (other n also) ∙ f)
        ]
      ];
    }

-- one slot was emptied
pub held-less : (p : Pool) (k : ℕ) (slots : List (Option ℕ)) → k < length slots → AreHeld p slots → AreHeld p (set slots k None)
held-less p k slots within h =
    let was : (n i : ℕ) → get_or (set slots k None) n None ≡ Some i → get_or slots n None ≡ Some i = λ n i e. elim (cases_eq n k) [
      | inl same ↦ absurd (none_some _ i (ap (λ j. get_or (set slots k None) j None) same ∙ get_or-set_same slots k None None within) e)
      | inr far ↦ sym (get_or-set_other slots k n None None far) ∙ e
    ] in
    record { live = λ n i e. h.live n i (was n i e); apart = λ m n i e f. h.apart m n i (was m i e) (was n i f) }

get_none : (n k : ℕ) → let none : Option ℕ = None in get_or (replicate n none) k none ≡ none
get_none zero k = refl
get_none (suc n) zero = refl
get_none (suc n) (suc k) = get_none n k

-- empty slots hold nothing
pub held-none : (p : Pool) (slots : List (Option ℕ)) (count : ℕ) → slots ≡ replicate count None → AreHeld p slots
held-none p slots count e =
    let empty : (n : ℕ) → get_or slots n None ≡ None = λ n. ap (λ l. get_or l n None) e ∙ get_none count n in
    record { live = λ n i f. absurd (none_some _ i (empty n) f); apart = λ m n i f g. absurd (none_some _ i (empty m) f) }
