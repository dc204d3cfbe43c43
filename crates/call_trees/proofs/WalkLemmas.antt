-- Walks by a stack.
use Rattle.std.proofs.Common.{◌≡◌, ℕ, zero, suc, ◌+◌, ◌-◌, ◌<◌, ◌≤◌, List, [], ◌∷◌, ◌++◌, All, Some, length, get_or, reverse, take, refl, sym, ap, ◌∙◌, subst, append_assoc, arith}
use Rattle.std.specs.List.{flat_map}
use Rattle.std.proofs.lemmas.List.{get_or-reverse, get_or_default, length-append, length-reverse, reverse-append, reverse-reverse, take_all, take_more}
use Rattle.std.proofs.lemmas.List.Concat.{flat_map-append}
use Rattle.std.proofs.lemmas.List.Elements.{All-append, All-head, All-nil, All-pop, All-push, All-tail, All-weaker}
use Rattle.std.proofs.lemmas.List.Sorted.{All-permutation, IsPermutation-reverse}
use Rattle.call_trees.specs.Walks.{IsShallow, walk_from, walk_through}

flat_same : (f g : ℕ → List ℕ) (xs : List ℕ) → All (λ x. f x ≡ g x) xs → flat_map f xs ≡ flat_map g xs
flat_same f g [] h = refl
flat_same f g (x ∷ xs) h =
    ap (λ ys. ys ++ flat_map f xs) (All-head (λ x. f x ≡ g x) x xs h)
    ∙ ap (λ ys. g x ++ ys) (flat_same f g xs (All-tail (λ x. f x ≡ g x) x xs h))

module _ (below : List (List ℕ)) where
  pub shallow_more : (n x : ℕ) → IsShallow below n x → IsShallow below (suc n) x
  shallow_more zero x h = absurd h
  shallow_more (suc n) x h = (h.0, All-weaker (IsShallow below n) (IsShallow below (suc n)) (shallow_more n) (get_or below x []) h.1)

  walk_same : (n x : ℕ) → IsShallow below n x → walk_from below n x ≡ walk_from below (suc n) x
  walk_same zero x h = absurd h
  walk_same (suc n) x h =
      ap (λ ys. x ∷ ys) (flat_same (walk_from below n) (walk_from below (suc n)) (get_or below x [])
      (All-weaker (IsShallow below n) (λ y. walk_from below n y ≡ walk_from below (suc n) y) (walk_same n) (get_or below x []) h.1))

  pub below_shallow : (n x : ℕ) → IsShallow below n x → All (IsShallow below n) (get_or below x [])
  below_shallow zero x h = absurd h
  below_shallow (suc n) x h = All-weaker (IsShallow below n) (IsShallow below (suc n)) (shallow_more n) (get_or below x []) h.1

  pub shallow_within : (n x : ℕ) → IsShallow below n x → x < length below
  shallow_within zero x h = absurd h
  shallow_within (suc n) x h = h.0

  pub walk_step : (n x : ℕ) → IsShallow below n x → walk_from below n x ≡ x ∷ flat_map (walk_from below n) (get_or below x [])
  walk_step zero x h = absurd h
  walk_step (suc n) x h =
      ap (λ ys. x ∷ ys) (flat_same (walk_from below n) (walk_from below (suc n)) (get_or below x [])
      (All-weaker (IsShallow below n) (λ y. walk_from below n y ≡ walk_from below (suc n) y) (walk_same n) (get_or below x []) h.1))

  -- what a walk listed, and what is on its stack, the next one last
  pub record IsOnWalk (roots walked stack : List ℕ) : Type 0 where
    pub told : walked ++ walk_through below (reverse stack) ≡ walk_through below roots
    pub shallow : All (IsShallow below (length below)) stack
    pub within : All (λ y. y < length below) walked

  pub walk_begins : (roots walked before stack : List ℕ) → All (IsShallow below (length below)) roots → walked ≡ [] → before ≡ [] → stack ≡ before ++ reverse roots → IsOnWalk roots walked stack
  walk_begins roots walked before stack h none empty is = record {
    told = ap (λ (ys : List ℕ). ys ++ walk_through below (reverse stack)) none ∙ ap (λ (ys : List ℕ). walk_through below (reverse ys)) all ∙ ap (walk_through below) (reverse-reverse roots);
    shallow = subst (All (IsShallow below (length below))) (sym all) (All-permutation (IsShallow below (length below)) roots (reverse roots) (IsPermutation-reverse roots) h);
    within = subst (All (λ y. y < length below)) (sym none) (All-nil (λ y. y < length below));
  }
    where
      all : stack ≡ reverse roots
      all = is ∙ ap (λ (ys : List ℕ). ys ++ reverse roots) empty

  pub on_top : (roots walked stack rest : List ℕ) (x : ℕ) → IsOnWalk roots walked stack → stack ≡ rest ++ x ∷ [] → x < length below
  on_top roots walked stack rest x h popped = shallow_within (length below) x (All-pop (IsShallow below (length below)) stack rest (Some x) popped h.shallow).1

  module _ (roots walked walked2 stack rest stack2 found : List ℕ) (x : ℕ) (h : IsOnWalk roots walked stack) (popped : stack ≡ rest ++ x ∷ []) (more : walked2 ≡ walked ++ x ∷ []) (is : found ≡ get_or below x found) (pushed : stack2 ≡ rest ++ reverse found) where
    split : All (IsShallow below (length below)) rest × IsShallow below (length below) x
    split = let s = All-pop (IsShallow below (length below)) stack rest (Some x) popped h.shallow in (s.0, s.1)

    same : found ≡ get_or below x []
    same = is ∙ get_or_default below x found [] (shallow_within (length below) x split.1)

    pending : walk_through below (reverse stack2) ≡ flat_map (walk_from below (length below)) found ++ walk_through below (reverse rest)
    pending =
        ap (λ (ys : List ℕ). walk_through below (reverse ys)) pushed ∙ ap (walk_through below) (reverse-append rest (reverse found))
        ∙ ap (λ (ys : List ℕ). walk_through below (ys ++ reverse rest)) (reverse-reverse found)
        ∙ flat_map-append (walk_from below (length below)) found (reverse rest)

    before : walk_through below (reverse stack) ≡ x ∷ (flat_map (walk_from below (length below)) found ++ walk_through below (reverse rest))
    before =
        ap (λ (ys : List ℕ). walk_through below (reverse ys)) popped ∙ ap (walk_through below) (reverse-append rest (x ∷ []))
        ∙ ap (λ (ys : List ℕ). ys ++ walk_through below (reverse rest)) (walk_step (length below) x split.1)
        ∙ ap (λ (ys : List ℕ). x ∷ (flat_map (walk_from below (length below)) ys ++ walk_through below (reverse rest))) (sym same)

    pub walk_more : IsOnWalk roots walked2 stack2
    walk_more = record {
      told =
          ap (λ (ys : List ℕ). ys ++ walk_through below (reverse stack2)) more ∙ append_assoc walked (x ∷ []) (walk_through below (reverse stack2))
          ∙ ap (λ (ys : List ℕ). walked ++ (x ∷ ys)) pending ∙ ap (λ (ys : List ℕ). walked ++ ys) (sym before) ∙ h.told;
      shallow = subst (All (IsShallow below (length below))) (sym pushed) (All-append (IsShallow below (length below)) rest (reverse found) split.0
          (All-permutation (IsShallow below (length below)) found (reverse found) (IsPermutation-reverse found)
          (subst (All (IsShallow below (length below))) (sym same) (below_shallow (length below) x split.1))));
      within = subst (All (λ y. y < length below)) (sym more) (All-push (λ y. y < length below) walked x h.within (shallow_within (length below) x split.1));
    }

    pub walk_less : length (walk_through below (reverse stack2)) < length (walk_through below (reverse stack))
    walk_less = omega (arith, ap length pending, ap length before)

  pub walk_ends : (roots walked stack : List ℕ) → IsOnWalk roots walked stack → stack ≡ [] → walked ≡ walk_through below roots
  walk_ends roots walked stack h empty = sym (ap (λ (ys : List ℕ). walked ++ walk_through below (reverse ys)) empty ∙ nil) ∙ h.told
    where
      nil : walked ++ [] ≡ walked
      nil = append_nil walked
        where
          append_nil : (ys : List ℕ) → ys ++ [] ≡ ys
          append_nil [] = refl
          append_nil (y ∷ ys) = ap (λ zs. y ∷ zs) (append_nil ys)

-- a list put on a stack from its end
pub reversed_more : (xs before stack new : List ℕ) (i x : ℕ) → i < length xs → x ≡ get_or xs (length xs - 1 - i) 0 → stack ≡ before ++ take i (reverse xs) → new ≡ stack ++ x ∷ [] → new ≡ before ++ take (i + 1) (reverse xs)
reversed_more xs before stack new i x lt is h step =
    step ∙ ap (λ (ys : List ℕ). ys ++ x ∷ []) h ∙ append_assoc before (take i (reverse xs)) (x ∷ [])
    ∙ ap (λ y. before ++ (take i (reverse xs) ++ y ∷ [])) (is ∙ sym (get_or-reverse xs i 0 lt))
    ∙ ap (λ (ys : List ℕ). before ++ ys) (sym (take_more (reverse xs) i 0 (omega (arith, lt, length-reverse xs))))

pub reversed_all : (xs before stack : List ℕ) (i : ℕ) → length xs ≤ i → stack ≡ before ++ take i (reverse xs) → stack ≡ before ++ reverse xs
reversed_all xs before stack i le h = h ∙ ap (λ (ys : List ℕ). before ++ ys) (take_all i (reverse xs) (omega (arith, le, length-reverse xs)))
