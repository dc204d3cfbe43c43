-- What stands below each number.
use Rattle.std.proofs.Common.{◌≡◌, ◌≢◌, ◌⊎◌, inl, inr, ℕ, zero, suc, ◌+◌, ◌<◌, ◌≤◌, List, [], ◌∷◌, ◌++◌, Bool, true, false, cond, eqb, Option, Some, None, length, get_or, map, set, take, replicate, filter, refl, sym, ap, ◌∙◌, subst, append-nil, arith, eq-eqb}
use Rattle.std.specs.List.{range_with_len}
use Rattle.std.proofs.lemmas.Bool.{cases_eq, ne_eqb}
use Rattle.std.proofs.lemmas.List.{get_or-map, get_or-set_other, get_or-set_same, get_or_default, length-map, length-set, same_lists, take_all}
use Rattle.std.proofs.lemmas.List.Elements.{filter_more}
use Rattle.std.proofs.lemmas.List.FromFn.{get_or-range_with_len, length-range_with_len}
use Rattle.call_trees.specs.Below.{below_all, below_one, is_number}

none_below : (above : List (Option ℕ)) (a n : ℕ) → map (below_one above []) (range_with_len a n) ≡ replicate n []
none_below above a zero = refl
none_below above a (suc n) = ap (λ (ys : List (List ℕ)). [] ∷ ys) (none_below above (a + 1) n)

pub groups_begin : (above : List (Option ℕ)) (lists : List (List ℕ)) → lists ≡ replicate (length above) [] → lists ≡ below_all above []
groups_begin above lists h = h ∙ sym (none_below above 0 (length above))

module _ (above : List (Option ℕ)) where
  pub groups_length : (order : List ℕ) → length (below_all above order) ≡ length above
  groups_length order = length-map (range_with_len 0 (length above)) (below_one above order) ∙ length-range_with_len 0 (length above)

  pub group_at : (order : List ℕ) (k : ℕ) (d : List ℕ) → k < length above → get_or (below_all above order) k d ≡ below_one above order k
  group_at order k d lt =
      get_or-map (below_one above order) (range_with_len 0 (length above)) k 0 d (omega (arith, lt, length-range_with_len 0 (length above)))
      ∙ ap (below_one above order) (get_or-range_with_len 0 (length above) k 0 lt ∙ (let e : 0 + k ≡ k = omega arith in e))

  module _ (order : List ℕ) (i j : ℕ) (lt : i < length order) (is : j ≡ get_or order i j) where
    one_more : (n : ℕ) → below_one above (take (i + 1) order) n ≡ below_one above (take i order) n ++ cond (is_number n (get_or above j None)) (j ∷ []) []
    one_more n =
        filter_more (λ j. is_number n (get_or above j None)) order i j lt
        ∙ ap (λ m. below_one above (take i order) n ++ cond (is_number n (get_or above m None)) (m ∷ []) []) (sym is)

    pub group_none : (lists : List (List ℕ)) → get_or above j None ≡ None → lists ≡ below_all above (take i order) → lists ≡ below_all above (take (i + 1) order)
    group_none lists e h = h ∙ ap (λ (f : ℕ → List ℕ). map f (range_with_len 0 (length above))) (λ i n. same n i)
      where
        same : (n : ℕ) → below_one above (take i order) n ≡ below_one above (take (i + 1) order) n
        same n = sym (one_more n ∙ ap (λ (o : Option ℕ). below_one above (take i order) n ++ cond (is_number n o) (j ∷ []) []) e ∙ append-nil (below_one above (take i order) n))

    pub group_some : (lists new : List (List ℕ)) (one : ℕ) (old : List ℕ) → get_or above j None ≡ Some one → one < length above → old ≡ get_or lists one old → new ≡ set lists one (old ++ j ∷ []) → lists ≡ below_all above (take i order) → new ≡ below_all above (take (i + 1) order)
    group_some lists new one old e low was step h = same_lists new (below_all above (take (i + 1) order)) sizes at
      where
        size : length lists ≡ length above
        size = ap length h ∙ groups_length (take i order)

        sizes : length new ≡ length (below_all above (take (i + 1) order))
        sizes = ap length step ∙ length-set lists one (old ++ j ∷ []) ∙ size ∙ sym (groups_length (take (i + 1) order))

        at : (k : ℕ) (d : List ℕ) → k < length new → get_or new k d ≡ get_or (below_all above (take (i + 1) order)) k d
        at k d less = ap (λ (ys : List (List ℕ)). get_or ys k d) step ∙ by (cases_eq k one) ∙ sym (group_at (take (i + 1) order) k d within ∙ one_more k)
          where
            within : k < length above
            within = omega (arith, less, sizes, groups_length (take (i + 1) order))

            before : get_or lists k d ≡ below_one above (take i order) k
            before = ap (λ (ys : List (List ℕ)). get_or ys k d) h ∙ group_at (take i order) k d within

            by : (k ≡ one) ⊎ (k ≢ one) → get_or (set lists one (old ++ j ∷ [])) k d ≡ below_one above (take i order) k ++ cond (is_number k (get_or above j None)) (j ∷ []) []
            by (inl same) =
                let yes : eqb one k ≡ true = eq-eqb one k (sym same) in
                ap (λ m. get_or (set lists one (old ++ j ∷ [])) m d) same ∙ get_or-set_same lists one (old ++ j ∷ []) d (omega (arith, low, size))
                ∙ ap (λ (ys : List ℕ). ys ++ j ∷ []) (was ∙ get_or_default lists one old d (omega (arith, low, size)) ∙ ap (λ m. get_or lists m d) (sym same) ∙ before)
                ∙ ap (λ b. below_one above (take i order) k ++ cond b (j ∷ []) []) (sym (ap (is_number k) e ∙ yes))
            by (inr other) =
                let no : eqb one k ≡ false = ne_eqb one k (λ q. other (sym q)) in
                get_or-set_other lists one k (old ++ j ∷ []) d other ∙ before ∙ sym (append-nil (below_one above (take i order) k))
                ∙ ap (λ b. below_one above (take i order) k ++ cond b (j ∷ []) []) (sym (ap (is_number k) e ∙ no))

  pub groups_all : (order : List ℕ) (i : ℕ) (lists : List (List ℕ)) → length order ≤ i → lists ≡ below_all above (take i order) → lists ≡ below_all above order
  groups_all order i lists le h = h ∙ ap (below_all above) (take_all i order le)

pub none_of : {X : Type 0} (o : Option X) → ((x : X) → o ≡ Some x → ⊥) → o ≡ None
none_of None h = refl
none_of (Some x) h = absurd (h x refl)
