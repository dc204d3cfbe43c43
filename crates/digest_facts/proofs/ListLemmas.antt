-- What a mapped list has, and lists with the same elements.
use Rattle.std.proofs.Common.{◌≡◌, ◌⊎◌, ◌↔◌, List, [], ◌∷◌, ◌++◌, map, sym, subst, ⊎_elim, inl, inr}
use Rattle.std.specs.List.{Any, Contains, flat_map}
use Rattle.std.proofs.lemmas.List.Elements.{Contains-append_left, Contains-append_right, Contains-append_cases}
use Rattle.digest_facts.proofs.UnionLemmas.{cons_cases, cons_here, cons_there, nil_has}

-- two lists have the same elements
abbrev pub HaveSame : {X : Type 0} → List X → List X → Type 0
HaveSame {X} xs ys = (x : X) → Contains xs x ↔ Contains ys x

pub to_map : {X Y : Type 0} (f : X → Y) (xs : List X) (x : X) → Contains xs x → Contains (map f xs) (f x)
to_map f [] x c = absurd (nil_has x c)
to_map {X} {Y} f (z ∷ xs) x c = ⊎_elim
    (λ (e : z ≡ x). subst (λ (w : X). Contains (map f (z ∷ xs)) (f w)) e (cons_here (f z) (map f xs)))
    (λ (d : Contains xs x). cons_there (f z) (map f xs) (f x) (to_map f xs x d))
    (cons_cases z xs x c)

pub from_map : {X Y : Type 0} (f : X → Y) (xs : List X) (y : Y) → Contains (map f xs) y → (x : X) × Contains xs x × (f x ≡ y)
from_map f [] y c = absurd (nil_has y c)
from_map {X} {Y} f (z ∷ xs) y c = ⊎_elim
    (λ (e : f z ≡ y). (z, cons_here z xs, e))
    (λ (d : Contains (map f xs) y). let r = from_map f xs y d in (r.0, cons_there z xs r.0 r.1, r.2))
    (cons_cases (f z) (map f xs) y c)

pub to_flat : {X Y : Type 0} (f : X → List Y) (xs : List X) (x : X) (y : Y) → Contains xs x → Contains (f x) y → Contains (flat_map f xs) y
to_flat f [] x y c d = absurd (nil_has x c)
to_flat {X} {Y} f (z ∷ xs) x y c d = ⊎_elim
    (λ (e : z ≡ x). Contains-append_left (f z) (flat_map f xs) y (subst (λ (w : X). Contains (f w) y) (sym e) d))
    (λ (h : Contains xs x). Contains-append_right (f z) (flat_map f xs) y (to_flat f xs x y h d))
    (cons_cases z xs x c)

pub from_flat : {X Y : Type 0} (f : X → List Y) (xs : List X) (y : Y) → Contains (flat_map f xs) y → (x : X) × Contains xs x × Contains (f x) y
from_flat f [] y c = absurd (nil_has y c)
from_flat {X} {Y} f (z ∷ xs) y c = ⊎_elim
    (λ (h : Contains (f z) y). (z, cons_here z xs, h))
    (λ (h : Contains (flat_map f xs) y). let r = from_flat f xs y h in (r.0, cons_there z xs r.0 r.1, r.2))
    (Contains-append_cases (f z) (flat_map f xs) y c)

-- what is said of some element of a list
pub to_any : {X : Type 0} (P : X → Type 0) (xs : List X) (x : X) → Contains xs x → P x → Any P xs
to_any P xs x c h = (c.0, x, c.1, c.2, h)

pub any_in : {X : Type 0} (P : X → Type 0) (xs ys : List X) → ((x : X) → Contains xs x → Contains ys x) → Any P xs → Any P ys
any_in P xs ys to (k, x, lt, is, h) = to_any P ys x (to x (k, lt, is)) h

pub any_append : {X : Type 0} (P : X → Type 0) (xs ys : List X) → Any P (xs ++ ys) ↔ (Any P xs ⊎ Any P ys)
any_append {X} P xs ys = (
  (λ (a : Any P (xs ++ ys)). ⊎_elim
      (λ (c : Contains xs a.1). inl (to_any P xs a.1 c a.4))
      (λ (c : Contains ys a.1). inr (to_any P ys a.1 c a.4))
      (Contains-append_cases xs ys a.1 (a.0, a.2, a.3))),
  (λ (s : Any P xs ⊎ Any P ys). ⊎_elim
      (any_in P xs (xs ++ ys) (λ x c. Contains-append_left xs ys x c))
      (any_in P ys (xs ++ ys) (λ x c. Contains-append_right xs ys x c))
      s),
)

pub map_in : {X Y : Type 0} (f : X → Y) (xs ys : List X) → ((x : X) → Contains xs x → Contains ys x) → (y : Y) → Contains (map f xs) y → Contains (map f ys) y
map_in {X} {Y} f xs ys to y c = let r = from_map f xs y c in subst (λ (w : Y). Contains (map f ys) w) r.2 (to_map f ys r.0 (to r.0 r.1))

pub flat_in : {X Y : Type 0} (f : X → List Y) (xs ys : List X) → ((x : X) → Contains xs x → Contains ys x) → (y : Y) → Contains (flat_map f xs) y → Contains (flat_map f ys) y
flat_in f xs ys to y c = let r = from_flat f xs y c in to_flat f ys r.0 y (to r.0 r.1) r.2

pub append_has : {X : Type 0} (xs ys : List X) (x : X) → Contains (xs ++ ys) x ↔ (Contains xs x ⊎ Contains ys x)
append_has xs ys x = (
  Contains-append_cases xs ys x,
  (λ s. ⊎_elim (λ (c : Contains xs x). Contains-append_left xs ys x c) (λ (c : Contains ys x). Contains-append_right xs ys x c) s),
)

pub map_append_has : {X Y : Type 0} (f : X → Y) (xs ys : List X) (y : Y) → Contains (map f (xs ++ ys)) y ↔ (Contains (map f xs) y ⊎ Contains (map f ys) y)
map_append_has {X} {Y} f xs ys y = (
  (λ (c : Contains (map f (xs ++ ys)) y). let r = from_map f (xs ++ ys) y c in ⊎_elim
      (λ (d : Contains xs r.0). inl (subst (λ (w : Y). Contains (map f xs) w) r.2 (to_map f xs r.0 d)))
      (λ (d : Contains ys r.0). inr (subst (λ (w : Y). Contains (map f ys) w) r.2 (to_map f ys r.0 d)))
      (Contains-append_cases xs ys r.0 r.1)),
  (λ s. ⊎_elim
      (λ (c : Contains (map f xs) y). map_in f xs (xs ++ ys) (λ x d. Contains-append_left xs ys x d) y c)
      (λ (c : Contains (map f ys) y). map_in f ys (xs ++ ys) (λ x d. Contains-append_right xs ys x d) y c)
      s),
)

-- of what is mapped out of flattened lists
pub flat_append_has : {X Y Z : Type 0} (f : X → List Y) (g : Y → Z) (xs ys : List X) (z : Z) → Contains (map g (flat_map f (xs ++ ys))) z ↔ (Contains (map g (flat_map f xs)) z ⊎ Contains (map g (flat_map f ys)) z)
flat_append_has {X} {Y} {Z} f g xs ys z = (
  (λ (c : Contains (map g (flat_map f (xs ++ ys))) z).
      let r = from_map g (flat_map f (xs ++ ys)) z c in
      let q = from_flat f (xs ++ ys) r.0 r.1 in
      ⊎_elim
      (λ (d : Contains xs q.0). inl (subst (λ (w : Z). Contains (map g (flat_map f xs)) w) r.2 (to_map g (flat_map f xs) r.0 (to_flat f xs q.0 r.0 d q.2))))
      (λ (d : Contains ys q.0). inr (subst (λ (w : Z). Contains (map g (flat_map f ys)) w) r.2 (to_map g (flat_map f ys) r.0 (to_flat f ys q.0 r.0 d q.2))))
      (Contains-append_cases xs ys q.0 q.1)),
  (λ s. ⊎_elim
      (λ (c : Contains (map g (flat_map f xs)) z). map_in g (flat_map f xs) (flat_map f (xs ++ ys)) (flat_in f xs (xs ++ ys) (λ x d. Contains-append_left xs ys x d)) z c)
      (λ (c : Contains (map g (flat_map f ys)) z). map_in g (flat_map f ys) (flat_map f (xs ++ ys)) (flat_in f ys (xs ++ ys) (λ x d. Contains-append_right xs ys x d)) z c)
      s),
)
