-- Texts with their numbers.
use Rattle.std.proofs.Common.{◌≡◌, ◌≢◌, ◌↔◌, ℕ, ◌+◌, ◌<◌, ◌≤◌, Bool, true, false, nat_lt, if◌then◌else◌, Some, List, [], ◌∷◌, ◌++◌, length, get_or, map, refl, sym, ap, ◌∙◌, subst, ⊎_elim, arith, IsPermutation, IsSorted, Ordering}
use Rattle.std.specs.declared.cmp.Ordering.TheVariants.{Less, Equal}
use Rattle.std.specs.Cmp.{IsTotalOrder}
use Rattle.std.specs.List.{AllPairs, Contains, slice_get}
use Rattle.std.proofs.lemmas.Bool.{cases_lt, false≢true, ltb-true, lt-ltb}
use Rattle.std.proofs.lemmas.Cmp.{on_total}
use Rattle.std.proofs.lemmas.List.{get_or_default, get_or-map, length-append, length-map}
use Rattle.std.proofs.lemmas.List.Elements.{Contains-get_or, Contains-append_left, Contains-append_right, Contains-append_cases}
use Rattle.std.proofs.lemmas.List.Quantifiers.{all_pairs_push}
use Rattle.std.proofs.lemmas.List.Sorted.{Contains-permutation, IsPermutation-sym}
use Rattle.std.proofs.lemmas.Option.{slice_get-get_or, slice_get_within, get_or_from_slice_get}
use Rattle.trace_types.proofs.ListingLemmas.{Contains-nil}
use Rattle.trace_types.proofs.ElementLemmas.{Contains-one, Contains-itself, Contains-map, one_item, one_place}
use Rattle.trace_types.proofs.ComparingLemmas.{less_differs}
use Rattle.kept_names.specs.Listings.{AreItemsBelow, HoldsOfTexts, ListsMarked, HasNumber}
use Rattle.kept_names.specs.Marking.{IsMarked}
use Rattle.kept_names.proofs.ModelOrderLemmas.{not_both_less, not_less_itself, rising_from_sort}

-- the marked texts with numbers below n, none twice
pub record Collects {X : Type 0} (texts : List X) (marks : List Bool) (n : ℕ) (items : List (X × ℕ)) : Type 0 where
  pub exactly : (item : X × ℕ) → Contains items item ↔ ((item.1 < n) × HasNumber texts item × IsMarked marks item.1)
  pub apart : AllPairs (λ (i j : X × ℕ). i.1 ≢ j.1) items
  pub few : length items ≤ n

module _ {X : Type 0} (texts : List X) (marks : List Bool) where
  pub collects_none : Collects texts marks 0 []
  collects_none = record {
    exactly = λ item. ((λ c. absurd (Contains-nil item c)), (λ h. let lt : item.1 < 0 = h.0 in absurd (omega arith)));
    apart = λ i j d l h. absurd (omega arith);
    few = omega arith;
  }

  pub collects_skip : (n : ℕ) (items : List (X × ℕ)) → (IsMarked marks n → ⊥) → Collects texts marks n items → Collects texts marks (n + 1) items
  collects_skip n items off h = record {
    exactly = λ item. (
      (λ c. let e = (h.exactly item).0 c in let lt : item.1 < n = e.0 in (omega arith, e.1, e.2)),
      (λ e. ⊎_elim
          (λ (lt : item.1 < n). (h.exactly item).1 (lt, e.1, e.2))
          (λ (le : n ≤ item.1). let lt : item.1 < n + 1 = e.0 in let same : item.1 ≡ n = omega arith in absurd (off (subst (IsMarked marks) same e.2)))
          (cases_lt item.1 n)),
    );
    apart = h.apart;
    few = let f = h.few in omega arith;
  }

  pub collects_push : (n : ℕ) (text : X) (items : List (X × ℕ)) → slice_get texts n ≡ Some text → IsMarked marks n → Collects texts marks n items → Collects texts marks (n + 1) (items ++ (text, n) ∷ [])
  collects_push n text items at on h = record {
    exactly = λ item. (
      (λ c. ⊎_elim
          (λ (d : Contains items item). let e = (h.exactly item).0 d in let lt : item.1 < n = e.0 in (omega arith, e.1, e.2))
          (λ (d : Contains ((text, n) ∷ []) item).
          let e : (text, n) ≡ item = Contains-one (text, n) item d in
          subst (λ (i : X × ℕ). (i.1 < n + 1) × HasNumber texts i × IsMarked marks i.1) e (omega arith, at, on))
          (Contains-append_cases items ((text, n) ∷ []) item c)),
      (λ e. ⊎_elim
          (λ (lt : item.1 < n). Contains-append_left items ((text, n) ∷ []) item ((h.exactly item).1 (lt, e.1, e.2)))
          (λ (le : n ≤ item.1).
          let lt : item.1 < n + 1 = e.0 in
          let same : n ≡ item.1 = omega arith in
          let here : slice_get texts n ≡ Some item.0 = subst (λ (k : ℕ). slice_get texts k ≡ Some item.0) (sym same) e.1 in
          let one : text ≡ item.0 = one_item texts n text item.0 at here in
          Contains-append_right items ((text, n) ∷ []) item (Contains-itself (text, n) item (λ k. (one k, same k))))
          (cases_lt item.1 n)),
    );
    apart = all_pairs_push (λ (i j : X × ℕ). i.1 ≢ j.1) items (text, n) h.apart (λ k d lt e.
        let c = (h.exactly (get_or items k d)).0 (Contains-get_or items k d lt) in
        let l : (get_or items k d).1 < n = c.0 in absurd (omega arith));
    few = let f = h.few in omega (arith, length-append items ((text, n) ∷ []));
  }

  pub collects_next : (n : ℕ) (text : X) (items new : List (X × ℕ)) (wanted : Bool) → slice_get texts n ≡ Some text → slice_get marks n ≡ Some wanted
      → new ≡ (if wanted then items ++ (text, n) ∷ [] else items) → Collects texts marks n items → Collects texts marks (n + 1) new
  collects_next n text items new true at on is h = subst (Collects texts marks (n + 1)) (sym is) (collects_push n text items at on h)
  collects_next n text items new false at off is h = subst (Collects texts marks (n + 1)) (sym is) (collects_skip n items (λ on. false≢true (one_item marks n false true off on)) h)

  module _ (cmp : X → X → Ordering) (total : IsTotalOrder cmp) (exact : (x y : X) → cmp x y ≡ Equal → x ≡ y) (differ : AllPairs (λ (x y : X). x ≢ y) texts)
      (n : ℕ) (all : length texts ≤ n) (items sorted : List (X × ℕ)) (so_far : Collects texts marks n items)
      (moved : IsPermutation items sorted) (up : IsSorted (λ (i j : X × ℕ). cmp i.0 j.0) sorted) where
    stands : (item : X × ℕ) → Contains sorted item → HasNumber texts item × IsMarked marks item.1
    stands item c = let e = (so_far.exactly item).0 (Contains-permutation sorted items item (IsPermutation-sym items sorted moved) c) in (e.1, e.2)

    pub collected : ListsMarked cmp texts marks sorted
    collected = record {
      rising = rising_from_sort (λ (i j : X × ℕ). cmp i.0 j.0) (on_total (λ (i : X × ℕ). i.0) total) items sorted moved
          (λ i j d lt inside tie.
          let x = get_or items i d in
          let y = get_or items j d in
          let ex = (so_far.exactly x).0 (Contains-get_or items i d (omega arith)) in
          let ey = (so_far.exactly y).0 (Contains-get_or items j d inside) in
          let same : x.0 ≡ y.0 = exact x.0 y.0 tie in
          so_far.apart i j d lt inside (one_place texts differ x.1 y.1 y.0 (subst (λ (v : X). slice_get texts x.1 ≡ Some v) same ex.1) ey.1))
          up;
      exactly = λ item. (
        (λ c. stands item c),
        (λ e. let lt = slice_get_within texts item.1 item.0 e.0 in Contains-permutation items sorted item moved ((so_far.exactly item).1 (omega arith, e.0, e.1))),
      );
    }

-- marked texts that are listed have different numbers, below what bounds those of all texts
pub are_listed : {X : Type 0} (cmp : X → X → Ordering) → IsTotalOrder cmp → (texts : List X) (marks : List Bool) (limit : ℕ) → length texts ≤ limit → (items : List (X × ℕ)) → ListsMarked cmp texts marks items → AreItemsBelow cmp limit items
are_listed {X} cmp total texts marks limit few items h = record {
  rising = h.rising;
  apart = λ i j d lt inside e.
      let x = get_or items i d in
      let y = get_or items j d in
      let sx = ((h.exactly x).0 (Contains-get_or items i d (omega arith))).0 in
      let sy = ((h.exactly y).0 (Contains-get_or items j d inside)).0 in
      less_differs cmp total x.0 y.0 (h.rising i j d lt inside) (one_item texts y.1 x.0 y.0 (subst (λ (k : ℕ). slice_get texts k ≡ Some x.0) e sx) sy);
  below = λ k d lt. let s = ((h.exactly (get_or items k d)).0 (Contains-get_or items k d lt)).0 in let w = slice_get_within texts (get_or items k d).1 (get_or items k d).0 s in omega arith;
}

abbrev pub texts_of : {X : Type 0} → List (X × ℕ) → List X
texts_of {X} items = map (λ (i : X × ℕ). i.0) items

module _ {X : Type 0} (cmp : X → X → Ordering) (total : IsTotalOrder cmp) (items : List (X × ℕ)) (rising : AllPairs (λ (i j : X × ℕ). cmp i.0 j.0 ≡ Less) items) where
  -- a text stands in one item
  pub one_number : (x : X) (a b : ℕ) → Contains items (x, a) → Contains items (x, b) → a ≡ b
  one_number x a b c d =
      let ec : get_or items c.0 (x, a) ≡ (x, a) = c.2 in
      let ed : get_or items d.0 (x, a) ≡ (x, b) = get_or_default items d.0 (x, a) (x, b) d.1 ∙ d.2 in
      let tc : (get_or items c.0 (x, a)).0 ≡ x = ap (λ (i : X × ℕ). i.0) ec in
      let td : (get_or items d.0 (x, a)).0 ≡ x = ap (λ (i : X × ℕ). i.0) ed in
      let less_each = λ (v w : X) (e : v ≡ x) (f : w ≡ x) (l : cmp v w ≡ Less). not_less_itself cmp total x (subst (λ (u : X). cmp x u ≡ Less) f (subst (λ (u : X). cmp u w ≡ Less) e l)) in
      ⊎_elim
      (λ (lt : c.0 < d.0). absurd (less_each (get_or items c.0 (x, a)).0 (get_or items d.0 (x, a)).0 tc td (rising c.0 d.0 (x, a) lt d.1)))
      (λ (le : d.0 ≤ c.0). ⊎_elim
      (λ (lt : d.0 < c.0). absurd (less_each (get_or items d.0 (x, a)).0 (get_or items c.0 (x, a)).0 td tc (rising d.0 c.0 (x, a) lt c.1)))
      (λ (ge : c.0 ≤ d.0). let e : c.0 ≡ d.0 = omega arith in
      ap (λ (i : X × ℕ). i.1) (sym ec ∙ ap (λ (k : ℕ). get_or items k (x, a)) e ∙ ed))
      (cases_lt d.0 c.0))
      (cases_lt c.0 d.0)

  -- what is told of the numbers of two items is told of their texts
  pub told_of_texts : (R : ℕ → ℕ → Type 0) (i j : X × ℕ) → Contains items i → Contains items j → (wanted : Bool) → (wanted ≡ true) ↔ R i.1 j.1 → (wanted ≡ true) ↔ HoldsOfTexts items R i.0 j.0
  told_of_texts R i j ci cj wanted told = (
    (λ w. (i.1, j.1, ci, cj, told.0 w)),
    (λ h. told.1 (subst (λ (k : ℕ). R i.1 k) (one_number j.0 h.1 j.1 h.3 cj) (subst (λ (k : ℕ). R k h.1) (one_number i.0 h.0 i.1 h.2 ci) h.4))),
  )

  -- the texts rise
  pub texts_rise : AllPairs (λ (x y : X). cmp x y ≡ Less) (texts_of items)
  texts_rise i j d lt inside =
      let within : j < length items = omega (arith, length-map items (λ (i : X × ℕ). i.0)) in
      let ei = get_or-map (λ (i : X × ℕ). i.0) items i (d, 0) d (omega arith) in
      let ej = get_or-map (λ (i : X × ℕ). i.0) items j (d, 0) d within in
      subst (λ (v : X). cmp v (get_or (texts_of items) j d) ≡ Less) (sym ei) (subst (λ (v : X). cmp (get_or items i (d, 0)).0 v ≡ Less) (sym ej) (rising i j (d, 0) lt within))

  pub holds_first : (R : ℕ → ℕ → Type 0) (x y : X) → HoldsOfTexts items R x y → Contains (texts_of items) x
  holds_first R x y h = Contains-map (λ (i : X × ℕ). i.0) items (x, h.0) x h.2 refl

  pub holds_second : (R : ℕ → ℕ → Type 0) (x y : X) → HoldsOfTexts items R x y → Contains (texts_of items) y
  holds_second R x y h = Contains-map (λ (i : X × ℕ). i.0) items (y, h.1) y h.3 refl

-- ---- items by index
pub is_item : {A : Type 0} (xs : List A) (k : ℕ) (x y : A) → k < length xs → x ≡ get_or xs k x → slice_get xs k ≡ Some y → x ≡ y
is_item xs k x y lt at e = at ∙ get_or_from_slice_get xs k y x e

pub get_item : {A : Type 0} (xs : List A) (k : ℕ) (x : A) → k < length xs → x ≡ get_or xs k x → slice_get xs k ≡ Some x
get_item xs k x lt at = slice_get-get_or xs k x lt ∙ ap (λ v. Some v) (sym at)

pub text_at : {X : Type 0} (items : List (X × ℕ)) (k : ℕ) (x : X × ℕ) → k < length items → x ≡ get_or items k x → x.0 ≡ get_or (texts_of items) k x.0
text_at {X} items k x lt at = ap (λ (i : X × ℕ). i.0) at ∙ sym (get_or-map (λ (i : X × ℕ). i.0) items k x x.0 lt)

pub texts_long : {X : Type 0} (items : List (X × ℕ)) → length (texts_of items) ≡ length items
texts_long {X} items = length-map items (λ (i : X × ℕ). i.0)

-- what is told of two numbers, where their texts rise
pub told_of_rising : {X : Type 0} (cmp : X → X → Ordering) → IsTotalOrder cmp → (limit : ℕ) (items : List (X × ℕ)) → AreItemsBelow cmp limit items → (R : ℕ → ℕ → Type 0) (p q : ℕ) (i j : X × ℕ)
    → p < length items → i ≡ get_or items p i → q < length items → j ≡ get_or items q j → (wanted : Bool) → (wanted ≡ true) ↔ ((nat_lt p q ≡ true) × (i.1 ≢ j.1) × R i.1 j.1)
    → (wanted ≡ true) ↔ ((cmp i.0 j.0 ≡ Less) × HoldsOfTexts items R i.0 j.0)
told_of_rising {X} cmp total limit items listed R p q i j lp ep lq eq wanted told =
    let ci : Contains items i = (p, lp, sym ep) in
    let cj : Contains items j = (q, lq, sym eq) in
    let at_i : get_or items p j ≡ i = get_or_default items p j i lp ∙ sym ep in
    let at_j : get_or items p i ≡ i = sym ep in
    let rises = λ (lt : p < q). subst (λ (v : X × ℕ). cmp i.0 v.0 ≡ Less) (sym eq) (subst (λ (v : X × ℕ). cmp v.0 (get_or items q j).0 ≡ Less) at_i (listed.rising p q j lt lq)) in
    let apart = λ (lt : p < q) (e : i.1 ≡ j.1). listed.apart p q j lt lq (ap (λ (v : X × ℕ). v.1) at_i ∙ e ∙ ap (λ (v : X × ℕ). v.1) eq) in (
      (λ w. let t = told.0 w in (rises (ltb-true p q t.0), (i.1, j.1, ci, cj, t.2))),
      (λ h.
          let r : R i.1 j.1 = subst (λ (k : ℕ). R i.1 k) (one_number cmp total items listed.rising j.0 h.1.1 j.1 h.1.3 cj) (subst (λ (k : ℕ). R k h.1.1) (one_number cmp total items listed.rising i.0 h.1.0 i.1 h.1.2 ci) h.1.4) in
          ⊎_elim
          (λ (lt : p < q). told.1 (lt-ltb p q lt, apart lt, r))
          (λ (le : q ≤ p). ⊎_elim
          (λ (lt : q < p).
          let back : cmp j.0 i.0 ≡ Less = subst (λ (v : X × ℕ). cmp j.0 v.0 ≡ Less) at_j (subst (λ (v : X × ℕ). cmp v.0 (get_or items p i).0 ≡ Less) (get_or_default items q i j lq ∙ sym eq) (listed.rising q p i lt lp)) in
          absurd (not_both_less cmp total i.0 j.0 h.0 back))
          (λ (ge : p ≤ q).
          let e : p ≡ q = omega arith in
          let same : i ≡ j = ep ∙ ap (λ (k : ℕ). get_or items k i) e ∙ get_or_default items q i j lq ∙ sym eq in
          absurd (not_less_itself cmp total j.0 (subst (λ (v : X × ℕ). cmp v.0 j.0 ≡ Less) same h.0)))
          (cases_lt q p))
          (cases_lt p q)),
    )
