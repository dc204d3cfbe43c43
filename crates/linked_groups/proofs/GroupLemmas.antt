-- Groups are what links join, and nothing else.
use Rattle.std.proofs.Common.{◌≡◌, ◌≢◌, ◌⊎◌, inl, inr, ℕ, ◌+◌, ◌<◌, ◌≤◌, List, [], ◌∷◌, ◌++◌, All, cond, eqb, eq-eqb, fold, length, get_or, max, min, refl, sym, ap, ◌∙◌, subst, append_assoc, arith}
use Rattle.std.specs.List.{range_with_len}
use Rattle.std.proofs.lemmas.Bool.{cases_eq, cases_lt, ne_eqb}
use Rattle.std.proofs.lemmas.List.{append-nil, ext_get_or, get_or-map, get_or_append_left, get_or_push, length-map, length_push}
use Rattle.std.proofs.lemmas.List.Elements.{All-from_get_or, All-get_or, All-head, All-nil, All-push, All-tail}
use Rattle.std.proofs.lemmas.List.FromFn.{get_or-range_with_len, length-range_with_len}
use Rattle.linked_groups.specs.GroupLaws.{AreGroups, GroupsAreOne, LinksAloneJoin}
use Rattle.linked_groups.specs.Groups.{AreLinksBelow, groups_after}

-- the name of a group after two were joined
abbrev move : (one other g : ℕ) → ℕ
move one other g = cond (eqb g (max one other)) (min one other) g

module _ (a b : ℕ) where
  moves : (g : ℕ) → g ≡ max a b → move a b g ≡ min a b
  moves g e = ap (λ t. cond t (min a b) g) (eq-eqb g (max a b) e)

  stays : (g : ℕ) → g ≢ max a b → move a b g ≡ g
  stays g ne = ap (λ t. cond t (min a b) g) (ne_eqb g (max a b) ne)

  move_low : (g : ℕ) → move a b g ≤ g
  move_low g = by (cases_eq g (max a b))
    where
      by : (g ≡ max a b) ⊎ (g ≢ max a b) → move a b g ≤ g
      by (inl e) = omega (arith, moves g e, e)
      by (inr ne) = omega (arith, stays g ne)

  move_one : move a b a ≡ min a b
  move_one = by (cases_eq a (max a b))
    where
      by : (a ≡ max a b) ⊎ (a ≢ max a b) → move a b a ≡ min a b
      by (inl e) = moves a e
      by (inr ne) = stays a ne ∙ (let e : a ≡ min a b = omega (arith, ne) in e)

  move_other : move a b b ≡ min a b
  move_other = by (cases_eq b (max a b))
    where
      by : (b ≡ max a b) ⊎ (b ≢ max a b) → move a b b ≡ min a b
      by (inl e) = moves b e
      by (inr ne) = stays b ne ∙ (let e : b ≡ min a b = omega (arith, ne) in e)

  move_least : move a b (min a b) ≡ min a b
  move_least = by (cases_eq (min a b) (max a b))
    where
      by : (min a b ≡ max a b) ⊎ (min a b ≢ max a b) → move a b (min a b) ≡ min a b
      by (inl e) = moves (min a b) e
      by (inr ne) = stays (min a b) ne

  -- what is the same at both is the same at what is moved
  move_same : (f : ℕ → ℕ) → f a ≡ f b → (g : ℕ) → f (move a b g) ≡ f g
  move_same f same g = by (cases_eq g (max a b)) (cases_lt a b)
    where
      by : (g ≡ max a b) ⊎ (g ≢ max a b) → (a < b) ⊎ (b ≤ a) → f (move a b g) ≡ f g
      by (inl e) (inl lt) =
          let low : min a b ≡ a = omega (arith, lt) in
          let high : b ≡ g = omega (arith, lt, e) in
          ap f (moves g e ∙ low) ∙ same ∙ ap f high
      by (inl e) (inr ge) =
          let low : min a b ≡ b = omega (arith, ge) in
          let high : a ≡ g = omega (arith, ge, e) in
          ap f (moves g e ∙ low) ∙ sym same ∙ ap f high
      by (inr ne) o = ap f (stays g ne)

-- one more link
module _ (count : ℕ) (done : List (ℕ × ℕ)) (groups : List ℕ) (l : ℕ × ℕ) (h : AreGroups count done groups) (one : l.0 < count) (two : l.1 < count) where
  at : (x : ℕ) → x < count → get_or (groups_after groups l) x 0 ≡ move (get_or groups l.0 0) (get_or groups l.1 0) (get_or groups x 0)
  at x lt = get_or-map (move (get_or groups l.0 0) (get_or groups l.1 0)) groups x 0 0 (omega (arith, lt, h.size))

  least_named : get_or groups (min (get_or groups l.0 0) (get_or groups l.1 0)) 0 ≡ min (get_or groups l.0 0) (get_or groups l.1 0)
  least_named = by (cases_lt (get_or groups l.0 0) (get_or groups l.1 0))
    where
      by : (get_or groups l.0 0 < get_or groups l.1 0) ⊎ (get_or groups l.1 0 ≤ get_or groups l.0 0) → get_or groups (min (get_or groups l.0 0) (get_or groups l.1 0)) 0 ≡ min (get_or groups l.0 0) (get_or groups l.1 0)
      by (inl lt) = let e : get_or groups l.0 0 ≡ min (get_or groups l.0 0) (get_or groups l.1 0) = omega (arith, lt) in subst (λ m. get_or groups m 0 ≡ m) e (h.named l.0 one)
      by (inr ge) = let e : get_or groups l.1 0 ≡ min (get_or groups l.0 0) (get_or groups l.1 0) = omega (arith, ge) in subst (λ m. get_or groups m 0 ≡ m) e (h.named l.1 two)

  -- the name of what is moved
  moved_named : (g : ℕ) → get_or groups g 0 ≡ g → move (get_or groups l.0 0) (get_or groups l.1 0) (get_or groups (move (get_or groups l.0 0) (get_or groups l.1 0) g) 0) ≡ move (get_or groups l.0 0) (get_or groups l.1 0) g
  moved_named g own = by (cases_eq g (max (get_or groups l.0 0) (get_or groups l.1 0)))
    where
      by : (g ≡ max (get_or groups l.0 0) (get_or groups l.1 0)) ⊎ (g ≢ max (get_or groups l.0 0) (get_or groups l.1 0))
          → move (get_or groups l.0 0) (get_or groups l.1 0) (get_or groups (move (get_or groups l.0 0) (get_or groups l.1 0) g) 0) ≡ move (get_or groups l.0 0) (get_or groups l.1 0) g
      by (inl e) =
          let to = moves (get_or groups l.0 0) (get_or groups l.1 0) g e in
          ap (λ m. move (get_or groups l.0 0) (get_or groups l.1 0) (get_or groups m 0)) to ∙ ap (move (get_or groups l.0 0) (get_or groups l.1 0)) least_named ∙ move_least (get_or groups l.0 0) (get_or groups l.1 0) ∙ sym to
      by (inr ne) =
          let to = stays (get_or groups l.0 0) (get_or groups l.1 0) g ne in
          ap (λ m. move (get_or groups l.0 0) (get_or groups l.1 0) (get_or groups m 0)) to ∙ ap (move (get_or groups l.0 0) (get_or groups l.1 0)) own

  more : AreLinksBelow count done → AreGroups count (done ++ l ∷ []) (groups_after groups l)
  more within = record {
    size = length-map groups (move (get_or groups l.0 0) (get_or groups l.1 0)) ∙ h.size;
    low = λ x lt. omega (arith, at x lt, move_low (get_or groups l.0 0) (get_or groups l.1 0) (get_or groups x 0), h.low x lt);
    named = λ x lt.
        let small : move (get_or groups l.0 0) (get_or groups l.1 0) (get_or groups x 0) < count = omega (arith, move_low (get_or groups l.0 0) (get_or groups l.1 0) (get_or groups x 0), h.low x lt, lt) in
        ap (λ m. get_or (groups_after groups l) m 0) (at x lt) ∙ at (move (get_or groups l.0 0) (get_or groups l.1 0) (get_or groups x 0)) small ∙ moved_named (get_or groups x 0) (h.named x lt) ∙ sym (at x lt);
    linked = All-push (λ (k : ℕ × ℕ). get_or (groups_after groups l) k.0 0 ≡ get_or (groups_after groups l) k.1 0) done l
        (All-from_get_or (λ (k : ℕ × ℕ). get_or (groups_after groups l) k.0 0 ≡ get_or (groups_after groups l) k.1 0) done (0, 0) (λ i lt.
        let k = get_or done i (0, 0) in
        let low = All-get_or (λ (k : ℕ × ℕ). (k.0 < count) × (k.1 < count)) done i (0, 0) lt within in
        at k.0 low.0 ∙ ap (move (get_or groups l.0 0) (get_or groups l.1 0)) (All-get_or (λ (k : ℕ × ℕ). get_or groups k.0 0 ≡ get_or groups k.1 0) done i (0, 0) lt h.linked) ∙ sym (at k.1 low.1)))
        (at l.0 one ∙ move_one (get_or groups l.0 0) (get_or groups l.1 0) ∙ sym (move_other (get_or groups l.0 0) (get_or groups l.1 0)) ∙ sym (at l.1 two));
    alone = λ f all x y lt also same.
        let old = All-front f all in
        let last = All-last f all in
        let to : (z : ℕ) → z < count → f (get_or groups z 0) ≡ f z = λ z less. h.alone f old (get_or groups z 0) z (omega (arith, h.low z less, less)) less (h.named z less) in
        let ends : f (get_or groups l.0 0) ≡ f (get_or groups l.1 0) = to l.0 one ∙ last ∙ sym (to l.1 two) in
        let back : (z : ℕ) → z < count → f (get_or (groups_after groups l) z 0) ≡ f z = λ z less. ap f (at z less) ∙ move_same (get_or groups l.0 0) (get_or groups l.1 0) f ends (get_or groups z 0) ∙ to z less in
        sym (back x lt) ∙ ap f same ∙ back y also;
  }
    where
      All-front : (f : ℕ → ℕ) → All (λ (k : ℕ × ℕ). f k.0 ≡ f k.1) (done ++ l ∷ []) → All (λ (k : ℕ × ℕ). f k.0 ≡ f k.1) done
      All-front f all = All-from_get_or (λ (k : ℕ × ℕ). f k.0 ≡ f k.1) done (0, 0) (λ i lt.
          subst (λ (k : ℕ × ℕ). f k.0 ≡ f k.1) (get_or_append_left done (l ∷ []) (0, 0) i lt) (All-get_or (λ (k : ℕ × ℕ). f k.0 ≡ f k.1) (done ++ l ∷ []) i (0, 0) (omega (arith, lt, length_push done l)) all))

      All-last : (f : ℕ → ℕ) → All (λ (k : ℕ × ℕ). f k.0 ≡ f k.1) (done ++ l ∷ []) → f l.0 ≡ f l.1
      All-last f all = subst (λ (k : ℕ × ℕ). f k.0 ≡ f k.1) (get_or_push done l (0, 0) (length done) refl) (All-get_or (λ (k : ℕ × ℕ). f k.0 ≡ f k.1) (done ++ l ∷ []) (length done) (0, 0) (omega (arith, length_push done l)) all)

-- all links, one after another
all_more : (count : ℕ) (done rest : List (ℕ × ℕ)) (groups : List ℕ) → AreLinksBelow count done → AreLinksBelow count rest → AreGroups count done groups → AreGroups count (done ++ rest) (fold groups_after groups rest)
all_more count done [] groups within low h = subst (λ (ls : List (ℕ × ℕ)). AreGroups count ls groups) (sym (append-nil done)) h
all_more count done (l ∷ rest) groups within low h =
    let here = All-head (λ (k : ℕ × ℕ). (k.0 < count) × (k.1 < count)) l rest low in
    subst (λ (ls : List (ℕ × ℕ)). AreGroups count ls (fold groups_after (groups_after groups l) rest)) (append_assoc done (l ∷ []) rest)
    (all_more count (done ++ l ∷ []) rest (groups_after groups l) (All-push (λ (k : ℕ × ℕ). (k.0 < count) × (k.1 < count)) done l within here) (All-tail (λ (k : ℕ × ℕ). (k.0 < count) × (k.1 < count)) l rest low) (more count done groups l h here.0 here.1 within))

none_linked : (count : ℕ) → AreGroups count [] (range_with_len 0 count)
none_linked count = record {
  size = length-range_with_len 0 count;
  low = λ x lt. omega (arith, own x lt);
  named = λ x lt. ap (λ m. get_or (range_with_len 0 count) m 0) (own x lt);
  linked = All-nil (λ (l : ℕ × ℕ). get_or (range_with_len 0 count) l.0 0 ≡ get_or (range_with_len 0 count) l.1 0);
  alone = λ f all x y lt less same. ap f (sym (own x lt) ∙ same ∙ own y less);
}
  where
    own : (x : ℕ) → x < count → get_or (range_with_len 0 count) x 0 ≡ x
    own x lt = get_or-range_with_len 0 count x 0 lt ∙ (let e : 0 + x ≡ x = omega arith in e)

pub links_join : LinksAloneJoin
links_join count links below = all_more count [] links (range_with_len 0 count) (All-nil (λ (l : ℕ × ℕ). (l.0 < count) × (l.1 < count))) below (none_linked count)

-- a name is no greater than that of another grouping
no_greater : (count : ℕ) (links : List (ℕ × ℕ)) (groups others : List ℕ) → AreGroups count links groups → AreGroups count links others → (x : ℕ) → x < count → get_or groups x 0 ≤ get_or others x 0
no_greater count links groups others h k x lt =
    let small : get_or others x 0 < count = omega (arith, k.low x lt, lt) in
    omega (arith, k.alone (λ z. get_or groups z 0) h.linked x (get_or others x 0) lt small (sym (k.named x lt)), h.low (get_or others x 0) small)

pub one_grouping : GroupsAreOne
one_grouping count links groups others h k = ext_get_or 0 groups others (h.size ∙ sym k.size) (λ x lt.
    let less : x < count = omega (arith, lt, h.size) in
    omega (arith, no_greater count links groups others h k x less, no_greater count links others groups k h x less))
