-- Facts on orderings, and on texts and names that are compared.
use Rattle.std.proofs.Common.{◌≡◌, refl, Ordering, ℕ, List, sym, ap, ◌∙◌, true, false, ◌<◌, ◌⊎◌, ℤ, ◌<ℤ◌, arith, inl, inr, rules, nat_eq, ◌≢◌, subst}
use Rattle.std.specs.declared.cmp.Ordering.TheVariants.{Less, Equal, Greater}
use Rattle.std.specs.Ordering.{ordering_then, is_eq, nat_cmp, is_lt, ordering_reverse}
use Rattle.std.specs.Cmp.Lexicographic.{slice_cmp, bytes_decides}
use Rattle.std.proofs.lemmas.Map.Text.{is_eq-slice_cmp}
use Rattle.std.proofs.lemmas.Slice.Eq.{bytes_eq-Decides}
use Rattle.std.specs.Cmp.{IsTotalOrder, nat_cmp_is, IsEquivalence}
use Rattle.std.proofs.lemmas.Cmp.{nat_list_cmp_total, ranked, tied_itself}
use Rattle.std.proofs.lemmas.Bool.{false≢true, eq-eqb, eqb-true}
use Rattle.std.proofs.lemmas.Int.{ints}
use Rattle.std.specs.Cmp.Rules.{comparing}
use Rattle.std.specs.Str.{bytes_eq}
use Rattle.trace_types.specs.Segments.{SegmentName}
use Rattle.trace_types.specs.NameOrder.{name_cmp}

pub both_equal : (o p : Ordering) → ordering_then o p ≡ Equal → (o ≡ Equal) × (p ≡ Equal)
both_equal Less p e = cc
both_equal Equal p e = (refl, e)
both_equal Greater p e = cc

pub text_exact : (xs ys : List ℕ) → slice_cmp nat_cmp xs ys ≡ Equal → xs ≡ ys
text_exact xs ys e = (bytes_eq-Decides xs ys).0 (sym (is_eq-slice_cmp xs ys) ∙ ap is_eq e)

pub name_exact : (a b : SegmentName) → name_cmp a b ≡ Equal → a ≡ b
name_exact a b e =
    let t = both_equal (slice_cmp nat_cmp a.0 b.0) (ordering_then (slice_cmp nat_cmp a.1 b.1) (slice_cmp nat_cmp a.2 b.2)) e in
    let u = both_equal (slice_cmp nat_cmp a.1 b.1) (slice_cmp nat_cmp a.2 b.2) t.1 in
    let ts : a.0 ≡ b.0 = text_exact a.0 b.0 t.0 in
    let ss : a.1 ≡ b.1 = text_exact a.1 b.1 u.0 in
    let es : a.2 ≡ b.2 = text_exact a.2 b.2 u.1 in
    λ k. (ts k, ss k, es k)

pub text_total : IsTotalOrder (slice_cmp nat_cmp)
text_total = nat_list_cmp_total

-- two orders in turn tell nothing apart where neither does
pub then_equal : (o p : Ordering) → is_eq (ordering_then o p) ≡ true → (o ≡ Equal) × (p ≡ Equal)
then_equal Less p h = absurd (false≢true h)
then_equal Equal Less h = absurd (false≢true h)
then_equal Equal Equal h = (refl, refl)
then_equal Equal Greater h = absurd (false≢true h)
then_equal Greater p h = absurd (false≢true h)

pub less_from : (o p : Ordering) → o ≡ ordering_reverse p → is_lt p ≡ false → is_eq o ≡ false → o ≡ Less
less_from o Less e l q = absurd (false≢true (sym l))
less_from o Equal e l q = absurd (false≢true (sym q ∙ ap is_eq e))
less_from o Greater e l q = e

pub equal_from : (o : Ordering) → is_eq o ≡ true → o ≡ Equal
equal_from Less e = absurd (false≢true e)
equal_from Equal e = refl
equal_from Greater e = absurd (false≢true e)

pub less_means : (a b : ℕ) → nat_cmp a b ≡ Less → a < b
less_means a b e = ranked a b Less (sym e)

pub less_to : (a b : ℕ) → a < b → nat_cmp a b ≡ Less
less_to a b h = sym (nat_cmp_is a b Less h)

-- a key is not before itself, nor both before and after another
pub time_asym : (x y : ℤ) (i j : ℕ) → ((x <ℤ y) ⊎ ((x ≡ y) × (i < j))) → ((y <ℤ x) ⊎ ((y ≡ x) × (j < i))) → ⊥
time_asym x y i j (inl a) (inl b) = omega (arith, ints)
time_asym x y i j (inl a) (inr b) = let e : y ≡ x = b.0 in omega (arith, ints)
time_asym x y i j (inr a) (inl b) = let e : x ≡ y = a.0 in omega (arith, ints)
time_asym x y i j (inr a) (inr b) = let l : i < j = a.1 in let r : j < i = b.1 in omega arith

pub text_laws : IsEquivalence bytes_eq
text_laws = search (comparing, rules)

pub text_means : (x y : List ℕ) → bytes_eq x y ≡ true → x ≡ y
text_means x y h = (bytes_decides x y).0 h

pub text_own : (x : List ℕ) → bytes_eq x x ≡ true
text_own x = text_laws.refl x

pub nat_own : (x : ℕ) → nat_eq x x ≡ true
nat_own x = eq-eqb x x refl

pub nat_means : (x y : ℕ) → nat_eq x y ≡ true → x ≡ y
nat_means x y h = eqb-true x y h

pub less_differs : {X : Type 0} (cmp : X → X → Ordering) → IsTotalOrder cmp → (x y : X) → cmp x y ≡ Less → x ≢ y
less_differs cmp total x y l e = let t : cmp x y ≡ Equal = subst (λ z. cmp x z ≡ Equal) e (tied_itself total x) in cc
