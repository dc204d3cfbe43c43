-- Ways of groups.
use Rattle.std.proofs.Common.{◌≡◌, ◌≢◌, ◌⊎◌, inl, inr, ℕ, zero, suc, ◌+◌, ◌<◌, ◌≤◌, List, [], ◌∷◌, ◌++◌, Bool, true, false, eqb, eq-eqb, length, get_or, map, set, take, max, min, refl, sym, ap, ◌∙◌, subst, arith}
use Rattle.std.specs.Prelude.{if◌then◌else◌}
use Rattle.std.specs.List.{range_with_len}
use Rattle.std.proofs.lemmas.Bool.{cases_eq, ne_eqb}
use Rattle.std.proofs.lemmas.List.{get_or-map, get_or-set_other, get_or-set_same, length-map, length-set, take_more}
use Rattle.std.proofs.lemmas.List.FromFn.{get_or-range_with_len, length-range_with_len}
use Rattle.linked_groups.specs.Groups.{groups_with}
use Rattle.linked_groups.specs.inner.Trees.{AreFalling, AreTrees}

-- a way is made shorter
module _ (next : List ℕ) (at : ℕ) (lt : at < length next) (falls : AreFalling next) where
  after : ℕ
  after = get_or next (get_or next at 0) 0

  step_low : get_or next at 0 < length next
  step_low = omega (arith, falls at lt, lt)

  pub shorter_low : get_or next (get_or next at 0) 0 ≤ at
  shorter_low = omega (arith, falls at lt, falls (get_or next at 0) step_low)

  pub shorter_falls : AreFalling (set next at (get_or next (get_or next at 0) 0))
  shorter_falls x less = by (cases_eq x at)
    where
      by : (x ≡ at) ⊎ (x ≢ at) → get_or (set next at (get_or next (get_or next at 0) 0)) x 0 ≤ x
      by (inl e) = omega (arith, ap (λ k. get_or (set next at (get_or next (get_or next at 0) 0)) k 0) e ∙ get_or-set_same next at (get_or next (get_or next at 0) 0) 0 lt, e, shorter_low)
      by (inr ne) = omega (arith, get_or-set_other next at x (get_or next (get_or next at 0) 0) 0 ne, falls x (omega (arith, less, length-set next at (get_or next (get_or next at 0) 0))))

  module _ (moves : get_or next at 0 ≢ at) (groups : List ℕ) (h : AreTrees next groups) where
    pub after_less : get_or next (get_or next at 0) 0 < at
    after_less = omega (arith, falls at lt, falls (get_or next at 0) step_low, moves)

    pub after_same : get_or groups (get_or next (get_or next at 0) 0) 0 ≡ get_or groups at 0
    after_same = h.same (get_or next at 0) step_low ∙ h.same at lt

    pub shorter_trees : AreTrees (set next at (get_or next (get_or next at 0) 0)) groups
    shorter_trees = record {
      size = h.size ∙ sym (length-set next at (get_or next (get_or next at 0) 0));
      falls = shorter_falls;
      same = λ x less. same x (omega (arith, less, length-set next at (get_or next (get_or next at 0) 0))) (cases_eq x at);
      ends = λ x less e. ends x (omega (arith, less, length-set next at (get_or next (get_or next at 0) 0))) e (cases_eq x at);
    }
      where
        same : (x : ℕ) → x < length next → (x ≡ at) ⊎ (x ≢ at) → get_or groups (get_or (set next at (get_or next (get_or next at 0) 0)) x 0) 0 ≡ get_or groups x 0
        same x less (inl e) =
            ap (λ k. get_or groups (get_or (set next at (get_or next (get_or next at 0) 0)) k 0) 0) e
            ∙ ap (λ k. get_or groups k 0) (get_or-set_same next at (get_or next (get_or next at 0) 0) 0 lt) ∙ after_same ∙ ap (λ k. get_or groups k 0) (sym e)
        same x less (inr ne) = ap (λ k. get_or groups k 0) (get_or-set_other next at x (get_or next (get_or next at 0) 0) 0 ne) ∙ h.same x less

        ends : (x : ℕ) → x < length next → get_or (set next at (get_or next (get_or next at 0) 0)) x 0 ≡ x → (x ≡ at) ⊎ (x ≢ at) → get_or groups x 0 ≡ x
        ends x less q (inl e) = absurd (omega (arith, ap (λ k. get_or (set next at (get_or next (get_or next at 0) 0)) k 0) (sym e), get_or-set_same next at (get_or next (get_or next at 0) 0) 0 lt, q, e, after_less))
        ends x less q (inr ne) = h.ends x less (sym (get_or-set_other next at x (get_or next (get_or next at 0) 0) 0 ne) ∙ q)

-- a name leads to another one
module _ (next : List ℕ) (low high : ℕ) (le : low ≤ high) (lt : high < length next) where
  pub join_falls : AreFalling next → AreFalling (set next high low)
  join_falls falls x less = by (cases_eq x high)
    where
      by : (x ≡ high) ⊎ (x ≢ high) → get_or (set next high low) x 0 ≤ x
      by (inl e) = omega (arith, ap (λ k. get_or (set next high low) k 0) e ∙ get_or-set_same next high low 0 lt, e, le)
      by (inr ne) = omega (arith, get_or-set_other next high x low 0 ne, falls x (omega (arith, less, length-set next high low)))

  module _ (groups : List ℕ) (h : AreTrees next groups) (one : get_or groups low 0 ≡ low) (two : get_or groups high 0 ≡ high) where
    moved : ℕ → ℕ
    moved g = if eqb g high then low else g

    at : (x : ℕ) → x < length next → get_or (map (λ g. if eqb g high then low else g) groups) x 0 ≡ (if eqb (get_or groups x 0) high then low else get_or groups x 0)
    at x less = get_or-map (λ g. if eqb g high then low else g) groups x 0 0 (omega (arith, less, h.size))

    own : eqb high high ≡ true
    own = eq-eqb high high refl

    low_moved : (if eqb low high then low else low) ≡ low
    low_moved = by (eqb low high)
      where
        by : (b : Bool) → (if b then low else low) ≡ low
        by true = refl
        by false = refl

    pub join_trees : AreTrees (set next high low) (map (λ g. if eqb g high then low else g) groups)
    join_trees = record {
      size = length-map groups (λ g. if eqb g high then low else g) ∙ h.size ∙ sym (length-set next high low);
      falls = join_falls h.falls;
      same = λ x less. same x (omega (arith, less, length-set next high low)) (cases_eq x high);
      ends = λ x less q. ends x (omega (arith, less, length-set next high low)) q (cases_eq x high);
    }
      where
        same : (x : ℕ) → x < length next → (x ≡ high) ⊎ (x ≢ high) → get_or (map (λ g. if eqb g high then low else g) groups) (get_or (set next high low) x 0) 0 ≡ get_or (map (λ g. if eqb g high then low else g) groups) x 0
        same x less (inl e) =
            ap (λ k. get_or (map (λ g. if eqb g high then low else g) groups) k 0) (ap (λ k. get_or (set next high low) k 0) e ∙ get_or-set_same next high low 0 lt)
            ∙ at low (omega (arith, le, lt)) ∙ ap (λ g. if eqb g high then low else g) one ∙ low_moved
            ∙ sym (at x less ∙ ap (λ k. if eqb (get_or groups k 0) high then low else get_or groups k 0) e ∙ ap (λ g. if eqb g high then low else g) two ∙ ap (λ b. if b then low else high) own)
        same x less (inr ne) =
            ap (λ k. get_or (map (λ g. if eqb g high then low else g) groups) k 0) (get_or-set_other next high x low 0 ne)
            ∙ at (get_or next x 0) (omega (arith, h.falls x less, less)) ∙ ap (λ g. if eqb g high then low else g) (h.same x less) ∙ sym (at x less)

        ends : (x : ℕ) → x < length next → get_or (set next high low) x 0 ≡ x → (x ≡ high) ⊎ (x ≢ high) → get_or (map (λ g. if eqb g high then low else g) groups) x 0 ≡ x
        ends x less q (inl e) =
            let is : low ≡ x = sym (ap (λ k. get_or (set next high low) k 0) e ∙ get_or-set_same next high low 0 lt) ∙ q in
            at x less ∙ ap (λ k. if eqb (get_or groups k 0) high then low else get_or groups k 0) e ∙ ap (λ g. if eqb g high then low else g) two ∙ ap (λ b. if b then low else high) own ∙ is
        ends x less q (inr ne) =
            let stays : get_or groups x 0 ≡ x = h.ends x less (sym (get_or-set_other next high x low 0 ne) ∙ q) in
            let no : eqb x high ≡ false = ne_eqb x high ne in
            at x less ∙ ap (λ g. if eqb g high then low else g) stays ∙ ap (λ b. if b then low else x) no

-- the same by the greater and the less of two
pub joined_first : (next groups : List ℕ) (one other : ℕ) → one < other → other < length next → AreTrees next groups → get_or groups one 0 ≡ one → get_or groups other 0 ≡ other → AreTrees (set next other one) (groups_with groups one other)
joined_first next groups one other less lt h a b =
    subst (λ m. AreTrees (set next other one) (map (λ g. if eqb g m then min one other else g) groups)) (let e : other ≡ max one other = omega arith in e)
    (subst (λ m. AreTrees (set next other one) (map (λ g. if eqb g other then m else g) groups)) (let e : one ≡ min one other = omega arith in e) (join_trees next one other (omega arith) lt groups h a b))

pub joined_second : (next groups : List ℕ) (one other : ℕ) → other ≤ one → one < length next → AreTrees next groups → get_or groups one 0 ≡ one → get_or groups other 0 ≡ other → AreTrees (set next one other) (groups_with groups one other)
joined_second next groups one other less lt h a b =
    subst (λ m. AreTrees (set next one other) (map (λ g. if eqb g m then min one other else g) groups)) (let e : one ≡ max one other = omega arith in e)
    (subst (λ m. AreTrees (set next one other) (map (λ g. if eqb g one then m else g) groups)) (let e : other ≡ min one other = omega arith in e) (join_trees next other one less lt groups h b a))

-- each number is a group of its own
pub alone : (next : List ℕ) → next ≡ range_with_len 0 (length next) → AreTrees next (range_with_len 0 (length next))
alone next h = record {
  size = length-range_with_len 0 (length next);
  falls = λ x lt. omega (arith, is x lt);
  same = λ x lt. ap (λ k. get_or (range_with_len 0 (length next)) k 0) (is x lt);
  ends = λ x lt e. own x lt;
}
  where
    own : (x : ℕ) → x < length next → get_or (range_with_len 0 (length next)) x 0 ≡ x
    own x lt = get_or-range_with_len 0 (length next) x 0 lt ∙ (let e : 0 + x ≡ x = omega arith in e)

    is : (x : ℕ) → x < length next → get_or next x 0 ≡ x
    is x lt = ap (λ (ns : List ℕ). get_or ns x 0) h ∙ own x lt

pub range_more : (a n : ℕ) → range_with_len a (n + 1) ≡ range_with_len a n ++ (a + n) ∷ []
range_more a zero = ap (λ k. k ∷ []) (let e : a ≡ a + 0 = omega arith in e)
range_more a (suc n) = ap (λ k. range_with_len a k) (let e : suc n + 1 ≡ suc (n + 1) = omega arith in e) ∙ ap (λ ks. a ∷ ks) (range_more (a + 1) n) ∙ ap (λ k. a ∷ (range_with_len (a + 1) n ++ k ∷ [])) (let e : a + 1 + n ≡ a + suc n = omega arith in e)

pub numbers_more : (numbers new : List ℕ) (i : ℕ) → numbers ≡ range_with_len 0 i → new ≡ numbers ++ i ∷ [] → new ≡ range_with_len 0 (i + 1)
numbers_more numbers new i h step =
    step ∙ ap (λ (ns : List ℕ). ns ++ i ∷ []) h ∙ ap (λ n. range_with_len 0 i ++ n ∷ []) (let e : i ≡ 0 + i = omega arith in e) ∙ sym (range_more 0 i)

pub names_more : (names new groups : List ℕ) (i n : ℕ) → i < length groups → names ≡ take i groups → n ≡ get_or groups i 0 → new ≡ names ++ n ∷ [] → new ≡ take (i + 1) groups
names_more names new groups i n lt h is step =
    step ∙ ap (λ (ns : List ℕ). ns ++ n ∷ []) h ∙ ap (λ m. take i groups ++ m ∷ []) is ∙ sym (take_more groups i 0 lt)
