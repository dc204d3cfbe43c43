-- A machine has one depth, one parent and one offset.
use Rattle.std.proofs.Common.{◌≡◌, ℕ, zero, suc, ◌≤◌, ℤ, pos, ◌+ℤ◌, ◌-ℤ◌, ◌≤ℤ◌, false, List, arith, sym, subst, refl, ◌∙◌, ⊎_elim}
use Rattle.std.proofs.lemmas.Int.{ints}
use Rattle.std.proofs.lemmas.Cmp.{nat_list_cmp_total}
use Rattle.std.proofs.lemmas.Map.Lookups.{exact_bytes}
use Rattle.std.specs.Cmp.Lexicographic.{slice_cmp}
use Rattle.std.specs.Ordering.{nat_cmp, is_gt, ordering_reverse}
use Rattle.std.specs.declared.cmp.Ordering.{Ordering}
use Rattle.std.specs.declared.cmp.Ordering.TheVariants.{Less, Equal, Greater}
use Rattle.trace_types.specs.declared.event.Event.{Event}
use Rattle.clock_offsets.specs.Machines.{IsNotAfter}
use Rattle.clock_offsets.specs.Messages.{IsHalf, IsLeastDelay, IsRelativeOffset}
use Rattle.clock_offsets.specs.Depths.{HasDepth}
use Rattle.clock_offsets.specs.Offsets.{IsParent, IsOffset, IsOffsetAtDepth}

pub depth_unique : (events : List Event) (j k : ℕ) (m : List ℕ) → HasDepth events j m → HasDepth events k m → j ≡ k
depth_unique events j k m a b =
    let low : j ≤ k = a.1 k b.0 in
    let high : k ≤ j = b.1 j a.0 in
    omega arith

equal_from_both : (o p : Ordering) → o ≡ ordering_reverse p → is_gt o ≡ false → is_gt p ≡ false → o ≡ Equal
equal_from_both Less Less e a b = cc
equal_from_both Less Equal e a b = cc
equal_from_both Less Greater e a b = cc
equal_from_both Equal p e a b = refl
equal_from_both Greater p e a b = cc

pub name_unique : (p q : List ℕ) → IsNotAfter p q → IsNotAfter q p → p ≡ q
name_unique p q a b = exact_bytes p q (equal_from_both (slice_cmp nat_cmp p q) (slice_cmp nat_cmp q p) (nat_list_cmp_total.antisymm p q) a b)

pub parent_unique : (events : List Event) (k : ℕ) (p q m : List ℕ) → IsParent events k p m → IsParent events k q m → p ≡ q
parent_unique events k p q m a b = name_unique p q (a.least q b.depth b.paired) (b.least p a.depth a.paired)

pub least_unique : (events : List Event) (m n : List ℕ) (f g : ℤ) → IsLeastDelay events m n f → IsLeastDelay events m n g → f ≡ g
least_unique events m n f g a b =
    let low : f ≤ℤ g = a.1 g b.0 in
    let high : g ≤ℤ f = b.1 f a.0 in
    omega (arith, ints)

half_unique : (d h i : ℤ) → IsHalf d h → IsHalf d i → h ≡ i
half_unique d h i a b =
    let p : (h +ℤ h) ≤ℤ d = a.0 in
    let q : d ≤ℤ ((h +ℤ h) +ℤ pos 1) = a.1 in
    let r : (i +ℤ i) ≤ℤ d = b.0 in
    let s : d ≤ℤ ((i +ℤ i) +ℤ pos 1) = b.1 in
    omega (arith, ints)

pub against_unique : (events : List Event) (m n : List ℕ) (o p : ℤ) → IsRelativeOffset events m n o → IsRelativeOffset events m n p → o ≡ p
against_unique events m n o p (f, g, lf, lg, h) (f', g', lf', lg', h') =
    let ef : f' ≡ f = least_unique events m n f' f lf' lf in
    let eg : g' ≡ g = least_unique events n m g' g lg' lg in
    half_unique (f -ℤ g) o p h (subst (λ (x : ℤ). IsHalf (x -ℤ g) p) ef (subst (λ (y : ℤ). IsHalf (f' -ℤ y) p) eg h'))

pub IsOffsetAtDepth-depth : (events : List Event) (k : ℕ) (m : List ℕ) (o : ℤ) → IsOffsetAtDepth events k m o → HasDepth events k m
IsOffsetAtDepth-depth events zero m o a = (a.0, λ j h. omega arith)
IsOffsetAtDepth-depth events (suc k) m o (p, a, b, parent, adds, own, is) = parent.child

pub IsOffsetAtDepth-unique : (events : List Event) (k : ℕ) (m : List ℕ) (o p : ℤ) → IsOffsetAtDepth events k m o → IsOffsetAtDepth events k m p → o ≡ p
IsOffsetAtDepth-unique events zero m o p a b = a.1 ∙ sym b.1
IsOffsetAtDepth-unique events (suc k) m o o' (p, a, b, parent, adds, own, is) (p', a', b', parent', adds', own', is') =
    let same : p' ≡ p = parent_unique events k p' p m parent' parent in
    let ea : a ≡ a' = IsOffsetAtDepth-unique events k p a a' adds (subst (λ (q : List ℕ). IsOffsetAtDepth events k q a') same adds') in
    let eb : b ≡ b' = against_unique events p m b b' own (subst (λ (q : List ℕ). IsRelativeOffset events q m b') same own') in
    cc

-- an offset by a depth is the one that the depth tells
pub IsOffset-adds : (events : List Event) (k : ℕ) (m : List ℕ) (o : ℤ) → HasDepth events k m → IsOffset events m o → IsOffsetAtDepth events k m o
IsOffset-adds events k m o depth offset =
    ⊎_elim
    (λ (a : (j : ℕ) × IsOffsetAtDepth events j m o). subst (λ (i : ℕ). IsOffsetAtDepth events i m o) (depth_unique events a.0 k m (IsOffsetAtDepth-depth events a.0 m o a.1) depth) a.1)
    (λ none. absurd (none.0 k depth.0))
    offset

pub IsOffset-unique : (events : List Event) (m : List ℕ) (o p : ℤ) → IsOffset events m o → IsOffset events m p → o ≡ p
IsOffset-unique events m o p a b =
    ⊎_elim
    (λ (h : (j : ℕ) × IsOffsetAtDepth events j m o). IsOffsetAtDepth-unique events h.0 m o p h.1 (IsOffset-adds events h.0 m p (IsOffsetAtDepth-depth events h.0 m o h.1) b))
    (λ none. ⊎_elim
    (λ (h : (j : ℕ) × IsOffsetAtDepth events j m p). absurd (none.0 h.0 (IsOffsetAtDepth-depth events h.0 m p h.1).0))
    (λ other. none.1 ∙ sym other.1)
    b)
    a

-- what a machine is against its parent is half of the least there less the least back
pub own_of : (events : List Event) (k : ℕ) (p m : List ℕ) (a o f g : ℤ) → IsParent events k p m → IsOffset events p a → IsOffset events m o → IsLeastDelay events p m f → IsLeastDelay events m p g → IsHalf (f -ℤ g) (o -ℤ a)
own_of events k p m a o f g parent offset_p offset_m lf lg =
    let adds = IsOffset-adds events (suc k) m o parent.child offset_m in
    own_of_sum events k p m a o f g parent (IsOffset-adds events k p a parent.depth offset_p) lf lg adds.0 adds.1 adds.2 adds.3 adds.4 adds.5 adds.6
  where
    own_of_sum : (events : List Event) (k : ℕ) (p m : List ℕ) (a o f g : ℤ) → IsParent events k p m → IsOffsetAtDepth events k p a → IsLeastDelay events p m f → IsLeastDelay events m p g
        → (q : List ℕ) (b c : ℤ) → IsParent events k q m → IsOffsetAtDepth events k q b → IsRelativeOffset events q m c → o ≡ b +ℤ c → IsHalf (f -ℤ g) (o -ℤ a)
    own_of_sum events k p m a o f g parent adds lf lg q b c parent' adds' own is =
        let same : q ≡ p = parent_unique events k q p m parent' parent in
        let eb : a ≡ b = IsOffsetAtDepth-unique events k p a b adds (subst (λ (x : List ℕ). IsOffsetAtDepth events k x b) same adds') in
        let here : IsRelativeOffset events p m c = subst (λ (x : List ℕ). IsRelativeOffset events x m c) same own in
        let ef : here.0 ≡ f = least_unique events p m here.0 f here.2 lf in
        let eg : here.1 ≡ g = least_unique events m p here.1 g here.3 lg in
        let low : ((c +ℤ c) ≤ℤ (here.0 -ℤ here.1)) = here.4.0 in
        let high : ((here.0 -ℤ here.1) ≤ℤ ((c +ℤ c) +ℤ pos 1)) = here.4.1 in
        (omega (arith, ints), omega (arith, ints))
