-- The successors of a vertex, found one by one.
use Rattle.std.proofs.Common.{◌≡◌, ◌↔◌, ℕ, ◌+◌, ◌<◌, ◌≤◌, Bool, true, false, List, [], ◌∷◌, ◌++◌, length, get_or, set, take, drop, Contains, arith, refl, sym, ap, ◌∙◌, subst, ⊎_elim}
use Rattle.std.specs.Int.{from_bool}
use Rattle.std.specs.List.Sorted.{IsStrictlyIncreasing}
use Rattle.std.proofs.lemmas.Bool.{cases_lt, false≢true}
use Rattle.std.proofs.lemmas.List.{get_or_append_left, get_or_at, get_or_push, length_push, take_at, take_more_set, take-set}
use Rattle.std.proofs.lemmas.List.Elements.{Contains-push, Contains-push_cases, Contains-append_left, Contains-get_or}
use Rattle.model_meet.specs.ModelStates.{ModelState}
use Rattle.model_meet.specs.RelationBits.{KeepsExclusion}
use Rattle.trace_graph.specs.inner.Successors.{AreExclusive, AreLists, name_at}

-- a rising list with a greater number at its end rises
rising_push : (xs : List ℕ) (b : ℕ) → IsStrictlyIncreasing xs → ((w : ℕ) → Contains xs w → w < b) → IsStrictlyIncreasing (xs ++ b ∷ [])
rising_push xs b rises below k h = ⊎_elim
    (λ (l : k + 1 < length xs).
    let lower : k < length xs = omega arith in
    let here = get_or_append_left xs (b ∷ []) 0 k lower in
    let next = get_or_append_left xs (b ∷ []) 0 (k + 1) l in
    let r = rises k l in
    omega arith)
    (λ (l : length xs ≤ k + 1).
    let n = length_push xs b in
    let e : length xs ≡ k + 1 = omega arith in
    let lower : k < length xs = omega arith in
    let here = get_or_append_left xs (b ∷ []) 0 k lower in
    let next = get_or_at xs b [] 0 (k + 1) e in
    let r = below (get_or xs k 0) (Contains-get_or xs k 0 lower) in
    omega arith)
    (cases_lt (k + 1) (length xs))

module _ (model : ModelState) (names : List ℕ) (v : ℕ) where
  -- v and w are mutually exclusive by the words
  abbrev pub Excludes : ℕ → Type 0
  Excludes w = KeepsExclusion model.words (name_at names v) (name_at names w)

  pub none_yet : AreExclusive model names v (v + 1) []
  none_yet = record {
    rising = λ k h. absurd (omega arith);
    later = λ w (k, lt, is). absurd (omega arith);
    exact = λ w after before. absurd (omega arith);
  }

  pub one_more : (n : ℕ) (list : List ℕ) → v < n → AreExclusive model names v n list → Excludes n → AreExclusive model names v (n + 1) (list ++ n ∷ [])
  one_more n list after a holds = record {
    rising = rising_push list n a.rising (λ w has. (a.later w has).1);
    later = λ w has. ⊎_elim
        (λ (old : Contains list w). let (lower, upper) = a.later w old in (lower, (let u : w < n = upper in omega arith)))
        (λ (same : n ≡ w). (subst (λ (x : ℕ). v < x) same after, (let e : n ≡ w = same in omega arith)))
        (Contains-push_cases list n w has);
    exact = λ w lower upper. (
      (λ has. ⊎_elim
          (λ (old : Contains list w). (a.exact w lower (a.later w old).1).0 old)
          (λ (same : n ≡ w). subst Excludes same holds)
          (Contains-push_cases list n w has)),
      (λ excluded. ⊎_elim
          (λ (below : w < n). Contains-append_left list (n ∷ []) w ((a.exact w lower below).1 excluded))
          (λ (above : n ≤ w). let e : n ≡ w = omega arith in subst (Contains (list ++ n ∷ [])) e (Contains-push list n))
          (cases_lt w n)),
    );
  }

  pub none_more : (n : ℕ) (list : List ℕ) → AreExclusive model names v n list → (Excludes n → ⊥) → AreExclusive model names v (n + 1) list
  none_more n list a fails = record {
    rising = a.rising;
    later = λ w has. let (lower, upper) = a.later w has in (lower, (let u : w < n = upper in omega arith));
    exact = λ w lower upper. (
      (λ has. (a.exact w lower (a.later w has).1).0 has),
      (λ excluded. ⊎_elim
          (λ (below : w < n). (a.exact w lower below).1 excluded)
          (λ (above : n ≤ w). let e : n ≡ w = omega arith in absurd (fails (subst Excludes (sym e) excluded)))
          (cases_lt w n)),
    );
  }

-- the next vertex is written, and counts where it is one of them
pub one_written : (model : ModelState) (names : List ℕ) (v n count : ℕ) (found : List ℕ) (is : Bool) → v < n → count < length found → AreExclusive model names v n (take count found) → ((is ≡ true) ↔ Excludes model names v n)
    → AreExclusive model names v (n + 1) (take (count + from_bool is) (set found count n))
one_written model names v n count found true after room a told = subst (AreExclusive model names v (n + 1)) (sym (take_more_set found count n room)) (one_more model names v n (take count found) after a (told.0 refl))
one_written model names v n count found false after room a told = subst (λ (k : ℕ). AreExclusive model names v (n + 1) (take k (set found count n))) (let e : count ≡ count + from_bool false = omega arith in e) (subst (AreExclusive model names v (n + 1)) (sym (take-set found count n)) (none_more model names v n (take count found) a (λ kept. false≢true (told.1 kept))))

pub lists_push : (model : ModelState) (names : List ℕ) (n : ℕ) (lists : List (List ℕ)) (list : List ℕ) → AreLists model names n lists → AreExclusive model names n (length names) list → AreLists model names (n + 1) (lists ++ list ∷ [])
lists_push model names n lists list a one = record {
  each = length_push lists list ∙ ap (λ k. k + 1) a.each;
  exact = λ v d lt. ⊎_elim
      (λ (below : v < n). subst (AreExclusive model names v (length names)) (sym (get_or_append_left lists (list ∷ []) d v (let e : length lists ≡ n = a.each in omega arith))) (a.exact v d below))
      (λ (above : n ≤ v). let same : n ≡ v = omega arith in subst (AreExclusive model names v (length names)) (sym (get_or_push lists list d v (a.each ∙ same))) (subst (λ (x : ℕ). AreExclusive model names x (length names) list) same one))
      (cases_lt v n);
}

-- what a call wrote over all of a vector is what stands in it
pub written : {X : Type 0} (n : ℕ) (new old : List X) → length new ≡ n → take n (new ++ drop (length new) old) ≡ new
written n new old e = take_at new (drop (length new) old) n e
