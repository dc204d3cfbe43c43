-- Layers after all rounds.
use Rattle.std.proofs.Common.{◌≡◌, ℕ, zero, suc, ◌+◌, ◌<◌, ◌≤◌, ◌++◌, ◌∷◌, [], Bool, true, false, not, ◌&&◌, List, length, get_or, replicate, refl, sym, ap, ◌∙◌, subst, arith, inl, inr, ⊎_elim}
use Rattle.std.proofs.lemmas.Bool.{cases_lt}
use Rattle.std.proofs.lemmas.List.{get_or_append_left, get_or_push, length_push}
use Rattle.evidence_rules.specs.Reaching.{Reaches}
use Rattle.implied_pairs.specs.Pairs.{AreBelow}
use Rattle.graph_layers.specs.Layers.{AreLayers}
use Rattle.graph_layers.specs.inner.Chains.{IsMatrix, at, is_above}
use Rattle.graph_layers.specs.inner.Depths.{AreDepths, AreRounds, AreSmall, depth_after, depth_over}
use Rattle.graph_layers.proofs.DepthLemmas.{at_last, bool_cases, depth_below, depth_reached, depth_same, depth_small, not_both, suc_is}
use Rattle.graph_layers.proofs.ReachLemmas.{and_first, pair_below, reach_after, reach_one}

-- ---- depths, one behind the other
pub depths_none : (count : ℕ) (above : ℕ → ℕ → Bool) (depth : ℕ → ℕ) (list : List ℕ) → list ≡ [] → AreDepths count 0 above depth list
depths_none count above depth list e = record { size = ap length e; each = λ b h. absurd (omega (arith, h)) }

pub depths_more : (count n : ℕ) (above : ℕ → ℕ → Bool) (depth : ℕ → ℕ) (old new : List ℕ) (x : ℕ) → AreDepths count n above depth old → x ≡ depth_over (λ a. above a n) depth count → new ≡ old ++ x ∷ [] → AreDepths count (n + 1) above depth new
depths_more count n above depth old new x so is e = subst (AreDepths count (n + 1) above depth) (sym e) (record {
  size = length_push old x ∙ (let s = so.size in let r : length old + 1 ≡ n + 1 = omega (arith, s) in r);
  each = λ b h. ⊎_elim
      (λ (l : b < n). get_or_append_left old (x ∷ []) 0 b (omega (arith, l, so.size)) ∙ so.each b l)
      (λ (g : n ≤ b). let same : b ≡ n = omega (arith, g, h) in
      get_or_push old x 0 b (so.size ∙ sym same) ∙ is ∙ ap (λ (k : ℕ). depth_over (λ a. above a k) depth count) (sym same))
      (cases_lt b n);
})

-- ---- rounds
past_end : (list : List ℕ) (i : ℕ) → length list ≤ i → get_or list i 0 ≡ 0
past_end [] i h = refl
past_end (x ∷ list) zero h = absurd (omega (arith, h))
past_end (x ∷ list) (suc i) h = past_end list i (omega (arith, h))

pub small_list : (list : List ℕ) (most : ℕ) → ((i : ℕ) → i < length list → get_or list i 0 ≤ most) → AreSmall most list
small_list list most h i = ⊎_elim (λ (l : i < length list). h i l) (λ (g : length list ≤ i). omega (arith, past_end list i g)) (cases_lt i (length list))

rounds_none : (count : ℕ) (above : ℕ → ℕ → Bool) (list : List ℕ) → length list ≡ count → ((i : ℕ) → i < count → get_or list i 0 ≡ 0) → AreRounds count 0 above list
rounds_none count above list size zeros = record {
  size = size;
  each = λ b hb. zeros b hb;
  small = small_list list 0 (λ i l. omega (arith, zeros i (omega (arith, l, size))));
}

abbrev zero_list : ℕ → List ℕ
zero_list n = replicate n 0

zeros : (n i : ℕ) → get_or (zero_list n) i 0 ≡ 0
zeros zero i = refl
zeros (suc n) zero = refl
zeros (suc n) (suc i) = zeros n i

length_zeros : (n : ℕ) → length (zero_list n) ≡ n
length_zeros zero = refl
length_zeros (suc n) = ap (λ (m : ℕ). suc m) (length_zeros n)

pub rounds_start : (count : ℕ) (above : ℕ → ℕ → Bool) (list : List ℕ) → list ≡ replicate count 0 → AreRounds count 0 above list
rounds_start count above list e = subst (AreRounds count 0 above) (sym e) (rounds_none count above (zero_list count) (length_zeros count) (λ i h. zeros count i))

pub rounds_more : (count round : ℕ) (above : ℕ → ℕ → Bool) (old lent new : List ℕ) → AreRounds count round above old → lent ≡ old → AreDepths count count above (λ i. get_or lent i 0) new → AreRounds count (round + 1) above new
rounds_more count round above old lent new so e given =
    let next : AreDepths count count above (λ i. get_or old i 0) new = subst (λ (l : List ℕ). AreDepths count count above (λ i. get_or l i 0) new) e given in
    record {
      size = next.size;
      each = λ b hb. next.each b hb ∙ depth_same (λ a. above a b) (λ a. above a b) (λ i. get_or old i 0) (depth_after count above round) count (λ a ha. refl) (λ a ha e. so.each a ha) ∙ ap (λ (n : ℕ). depth_after count above n b) (suc_is round);
      small = small_list new (round + 1) (λ i l.
          let inside : i < count = omega (arith, l, next.size) in
          let most = depth_small (λ a. above a i) (λ a. get_or old a 0) round count (λ a ha. so.small a) in
          omega (arith, next.each i inside, most));
    }

-- ---- the last round
module _ (count : ℕ) (pairs : List (ℕ × ℕ)) (below : AreBelow count pairs) (matrix : List Bool) (is : IsMatrix count pairs matrix) where
  no_way : (x y : Bool) → (x && not y) ≡ true → y ≡ true → ⊥
  no_way true true e f = let g : false ≡ true = e in cc
  no_way true false e f = let g : false ≡ true = f in cc
  no_way false y e f = let g : false ≡ true = e in cc

  a_way : (x y : Bool) → x ≡ true → (y ≡ true → ⊥) → (x && not y) ≡ true
  a_way true true e f = absurd (f refl)
  a_way true false e f = refl
  a_way false y e f = let g : false ≡ true = e in cc

  the_false : (x : Bool) → (x ≡ true → ⊥) → x ≡ false
  the_false true f = absurd (f refl)
  the_false false f = refl

  way : (a b : ℕ) → a < count → b < count → is_above count matrix a b ≡ true → Reaches pairs a b
  way a b ha hb e = (is.each a b ha hb).0 (and_first (at count matrix a b) (not (at count matrix b a)) e)

  no_back : (a b : ℕ) → a < count → b < count → is_above count matrix a b ≡ true → Reaches pairs b a → ⊥
  no_back a b ha hb e r = no_way (at count matrix a b) (at count matrix b a) e ((is.each b a hb ha).1 r)

  stands_above : (a b : ℕ) → a < count → b < count → Reaches pairs a b → (Reaches pairs b a → ⊥) → is_above count matrix a b ≡ true
  stands_above a b ha hb r f = a_way (at count matrix a b) (at count matrix b a) ((is.each a b ha hb).1 r) (λ e. f ((is.each b a hb ha).0 e))

  over : (a b c : ℕ) → a < count → b < count → c < count → is_above count matrix a b ≡ true → is_above count matrix b c ≡ true → is_above count matrix a c ≡ true
  over a b c ha hb hc d e = stands_above a c ha hc (reach_after pairs a b c (way a b ha hb d) (way b c hb hc e)) (λ r. no_back a b ha hb d (reach_after pairs b c a (way b c hb hc e) r))

  self : (a : ℕ) → a < count → is_above count matrix a a ≡ false
  self a ha = the_false (is_above count matrix a a) (λ e. no_back a a ha ha e (way a a ha ha e))

  -- what stands above the one of two that reach each other stands above the other
  both_above : (a b x : ℕ) → a < count → b < count → x < count → Reaches pairs a b → Reaches pairs b a → is_above count matrix x a ≡ true → is_above count matrix x b ≡ true
  both_above a b x ha hb hx r s e = stands_above x b hx hb (reach_after pairs x a b (way x a hx ha e) r) (λ t. no_back x a hx ha e (reach_after pairs a b x r t))

  same_above : (a b x : ℕ) → a < count → b < count → x < count → Reaches pairs a b → Reaches pairs b a → is_above count matrix x a ≡ is_above count matrix x b
  same_above a b x ha hb hx r s = ⊎_elim
      (λ (e : is_above count matrix x a ≡ true). e ∙ sym (both_above a b x ha hb hx r s e))
      (λ (e : is_above count matrix x a ≡ false). e ∙ sym (the_false (is_above count matrix x b) (λ f. not_both (is_above count matrix x a) (both_above b a x hb ha hx s r f) e)))
      (bool_cases (is_above count matrix x a))

  pub layers_done : (round : ℕ) (list : List ℕ) → round ≡ count → AreRounds count round (is_above count matrix) list → AreLayers count pairs list
  layers_done round list last so = record {
    size = so.size;
    down = λ a b c.
        let h = pair_below count pairs below a b c in
        let r = reach_one pairs a b c in
        ⊎_elim
        (λ (back : at count matrix b a ≡ true).
        let s = (is.each b a h.1 h.0).0 back in
        inr (depth a h.0 ∙ depth_same (λ x. is_above count matrix x a) (λ x. is_above count matrix x b) (λ i. get_or list i 0) (λ i. get_or list i 0) count (λ x hx. same_above a b x h.0 h.1 hx r s) (λ x hx e. refl) ∙ sym (depth b h.1), s))
        (λ (none : at count matrix b a ≡ false).
        let e = a_way (at count matrix a b) (at count matrix b a) ((is.each a b h.0 h.1).1 r) (λ f. not_both (at count matrix b a) f none) in
        inl (let lower = depth_below (λ x. is_above count matrix x b) (λ i. get_or list i 0) count a h.0 e in omega (arith, lower, depth b h.1)))
        (bool_cases (at count matrix b a));
    tight = λ b hb some.
        let found = depth_reached (λ x. is_above count matrix x b) (λ i. get_or list i 0) count (omega (arith, some, depth b hb)) in
        (found.0, found.1, way found.0 b found.1 hb found.2, found.3 ∙ sym (depth b hb));
  }
    where
      depth : (b : ℕ) → b < count → get_or list b 0 ≡ depth_over (λ a. is_above count matrix a b) (λ i. get_or list i 0) count
      depth b hb = so.each b hb ∙ ap (λ (k : ℕ). depth_after count (is_above count matrix) k b) last ∙ at_last count (is_above count matrix) over self b hb
          ∙ depth_same (λ a. is_above count matrix a b) (λ a. is_above count matrix a b) (depth_after count (is_above count matrix) count) (λ i. get_or list i 0) count (λ a ha. refl)
          (λ a ha e. sym (so.each a ha ∙ ap (λ (k : ℕ). depth_after count (is_above count matrix) k a) last))
