-- The elements of lists, and of lists that are made of others.
use Rattle.std.proofs.Common.{◌≡◌, [], ◌∷◌, ⊎_elim, arith, ◌⊎◌, ℕ, ◌+◌, ◌<◌, List, length, get_or, take, ◌∙◌, subst, inl, inr, sym, zero, suc, map, ap, refl, ◌++◌, slice_get, Some, ◌≢◌, ◌≤◌, All, nat_lt, Bool, true, false, cond, None}
use Rattle.std.specs.List.{Contains, AllPairs, flat_map, position, position_or_len}
use Rattle.std.proofs.lemmas.List.Elements.{Contains-push_cases, Contains-append_left, Contains-append_right, Contains-append_cases, All-cons, All-head, All-nil, All-tail}
use Rattle.std.proofs.lemmas.List.{take_more, get_or-take, get_or_default, length-take, get_or-map, length-map, append-nil, map-append}
use Rattle.std.proofs.lemmas.List.Concat.{flat_map-append}
use Rattle.std.proofs.lemmas.Option.{slice_get_within, get_or_from_slice_get, slice_get_cases}
use Rattle.std.proofs.lemmas.Bool.{cases_lt, cases_order, lt-ltb}
use Rattle.std.proofs.lemmas.List.Sums.{fails_before_first}
use Rattle.trace_types.proofs.ListingLemmas.{Contains-nil, Contains-cons}

pub Contains-one : {X : Type 0} (x y : X) → Contains (x ∷ []) y → x ≡ y
Contains-one x y c = ⊎_elim (λ (h : Contains [] y). absurd (Contains-nil y h)) (λ (e : x ≡ y). e) (Contains-push_cases [] x y c)

pub Contains-itself : {X : Type 0} (x y : X) → x ≡ y → Contains (x ∷ []) y
Contains-itself x y e = (0, omega arith, e)

-- an element of one more
pub Contains-more : {X : Type 0} (xs : List X) (i : ℕ) (x : X) → i < length xs → x ≡ get_or xs i x → (y : X) → Contains (take (i + 1) xs) y → Contains (take i xs) y ⊎ (x ≡ y)
Contains-more xs i x lt e y c =
    ⊎_elim (λ (h : Contains (take i xs) y). inl h) (λ (f : get_or xs i x ≡ y). inr (e ∙ f))
    (Contains-push_cases (take i xs) (get_or xs i x) y (subst (λ l. Contains l y) (take_more xs i x lt) c))

pub Contains-before : {X : Type 0} (xs : List X) (i : ℕ) (x : X) → i < length xs → (y : X) → Contains (take i xs) y → Contains (take (i + 1) xs) y
Contains-before xs i x lt y c = subst (λ l. Contains l y) (sym (take_more xs i x lt)) (Contains-append_left (take i xs) (get_or xs i x ∷ []) y c)

pub Contains-now : {X : Type 0} (xs : List X) (i : ℕ) (x : X) → i < length xs → x ≡ get_or xs i x → (y : X) → x ≡ y → Contains (take (i + 1) xs) y
Contains-now xs i x lt e y f = subst (λ l. Contains l y) (sym (take_more xs i x lt)) (Contains-append_right (take i xs) (get_or xs i x ∷ []) y (Contains-itself (get_or xs i x) y (sym e ∙ f)))

-- an element before place i stands to the one at i as any earlier to any later one
pub before_place : {X : Type 0} (R : X → X → Type 0) (xs : List X) → AllPairs R xs → (i : ℕ) (x : X) → i < length xs → x ≡ get_or xs i x → (y : X) → Contains (take i xs) y → R y x
before_place R xs all i x lt e y c =
    let few : c.0 < length (take i xs) = c.1 in
    let early : c.0 < i = omega (arith, length-take i xs) in
    let here : get_or xs c.0 x ≡ y = get_or_default xs c.0 x y (omega arith) ∙ sym (get_or-take i xs c.0 y early) ∙ c.2 in
    subst (λ v. R v x) here (subst (λ v. R (get_or xs c.0 x) v) (sym e) (all c.0 i x early lt))

pub map_at : {X Y : Type 0} (f : X → Y) (xs : List X) (x : X) (y : Y) (k : ℕ) → k < length xs → get_or xs k x ≡ x → f x ≡ y → Contains (map f xs) y
map_at f [] x y k lt same e = absurd (omega arith)
map_at f (z ∷ xs) x y zero lt same e = (0, omega arith, ap f same ∙ e)
map_at f (z ∷ xs) x y (suc k) lt same e = Contains-cons (f z) (map f xs) y (map_at f xs x y k (omega arith) same e)

pub Contains-map : {X Y : Type 0} (f : X → Y) (xs : List X) (x : X) (y : Y) → Contains xs x → f x ≡ y → Contains (map f xs) y
Contains-map f xs x y c e = map_at f xs x y c.0 c.1 c.2 e

pub contains_map : {X Y : Type 0} (f : X → Y) (xs : List X) (x : X) → Contains xs x → Contains (map f xs) (f x)
contains_map f xs x c =
    let within : c.0 < length xs = c.1 in
    (c.0, omega (arith, length-map xs f), get_or-map f xs c.0 x (f x) within ∙ ap f c.2)

pub from_map_at : {X Y : Type 0} (f : X → Y) (xs : List X) (y : Y) (k : ℕ) → k < length (map f xs) → get_or (map f xs) k y ≡ y → (x : X) × Contains xs x × (f x ≡ y)
from_map_at f [] y k lt e = absurd (omega arith)
from_map_at f (x ∷ xs) y zero lt e = (x, (0, omega arith, refl), e)
from_map_at f (x ∷ xs) y (suc k) lt e = let r = from_map_at f xs y k (omega arith) e in (r.0, Contains-cons x xs r.0 r.1, r.2)

-- an element of a map comes from one
pub from_map : {X Y : Type 0} (f : X → Y) (xs : List X) (y : Y) → Contains (map f xs) y → (x : X) × Contains xs x × (f x ≡ y)
from_map f xs y c = from_map_at f xs y c.0 c.1 c.2

pub flat_map_at : {X Y : Type 0} (f : X → List Y) (xs : List X) (x : X) (y : Y) (k : ℕ) → k < length xs → get_or xs k x ≡ x → Contains (f x) y → Contains (flat_map f xs) y
flat_map_at f [] x y k lt same c = absurd (omega arith)
flat_map_at f (z ∷ xs) x y zero lt same c = Contains-append_left (f z) (flat_map f xs) y (subst (λ v. Contains (f v) y) (sym same) c)
flat_map_at f (z ∷ xs) x y (suc k) lt same c = Contains-append_right (f z) (flat_map f xs) y (flat_map_at f xs x y k (omega arith) same c)

pub Contains-flat_map : {X Y : Type 0} (f : X → List Y) (xs : List X) (x : X) (y : Y) → Contains xs x → Contains (f x) y → Contains (flat_map f xs) y
Contains-flat_map f xs x y c d = flat_map_at f xs x y c.0 c.1 c.2 d

-- an element of lists joined end to end is in one of them
pub from_flat_map : {X Y : Type 0} (f : X → List Y) (xs : List X) (y : Y) → Contains (flat_map f xs) y → (x : X) × Contains xs x × Contains (f x) y
from_flat_map f [] y c = absurd (Contains-nil y c)
from_flat_map f (x ∷ xs) y c = ⊎_elim
    (λ (d : Contains (f x) y). (x, (0, omega arith, refl), d))
    (λ (d : Contains (flat_map f xs) y). let r = from_flat_map f xs y d in (r.0, Contains-cons x xs r.0 r.1, r.2))
    (Contains-append_cases (f x) (flat_map f xs) y c)

pub map_flat_map-more : {X Y Z : Type 0} (f : X → List Y) (g : Y → Z) (xs : List X) (i : ℕ) (x : X) → i < length xs → x ≡ get_or xs i x
    → map g (flat_map f (take (i + 1) xs)) ≡ map g (flat_map f (take i xs)) ++ map g (f x)
map_flat_map-more f g xs i x lt e =
    ap (λ l. map g (flat_map f l)) (take_more xs i x lt ∙ ap (λ v. take i xs ++ v ∷ []) (sym e))
    ∙ ap (map g) (flat_map-append f (take i xs) (x ∷ []) ∙ ap (λ l. flat_map f (take i xs) ++ l) (append-nil (f x)))
    ∙ map-append g (flat_map f (take i xs)) (f x)

-- one more list, of lists one after another
pub flat_more : {X A : Type 0} (f : X → List A) (xs : List X) (i : ℕ) (x : X) → i < length xs → x ≡ get_or xs i x → flat_map f (take (i + 1) xs) ≡ flat_map f (take i xs) ++ f x
flat_more f xs i x lt is =
    ap (flat_map f) (take_more xs i x lt) ∙ (flat_map-append f (take i xs) (get_or xs i x ∷ [])
    ∙ ap (λ l. flat_map f (take i xs) ++ l) (append-nil (f (get_or xs i x)) ∙ ap f (sym is)))

pub map_twice : {X Y Z : Type 0} (f : Y → Z) (g : X → Y) (xs : List X) → map f (map g xs) ≡ map (λ x. f (g x)) xs
map_twice f g [] = refl
map_twice {Z = Z} f g (x ∷ xs) = ap (λ (l : List Z). f (g x) ∷ l) (map_twice f g xs)

pub map_same : {X Y : Type 0} (f g : X → Y) → ((x : X) → f x ≡ g x) → (xs : List X) → map f xs ≡ map g xs
map_same f g same [] = refl
map_same f g same (x ∷ xs) = ap (λ y. y ∷ map f xs) (same x) ∙ ap (λ ys. g x ∷ ys) (map_same f g same xs)

-- an element of a list that is mapped
pub mapped_at : {X : Type 0} (f : X → ℕ) (xs : List X) (i d : ℕ) (x : X) → slice_get xs i ≡ Some x → get_or (map f xs) i d ≡ f x
mapped_at f xs i d x got = get_or-map f xs i x d (slice_get_within xs i x got) ∙ ap f (get_or_from_slice_get xs i x x got)

pub mapped_all : {X Y : Type 0} (P : X → Type 0) (Q : Y → Type 0) (f : X → Y) (xs : List X) → ((x : X) → P x → Q (f x)) → All P xs → All Q (map f xs)
mapped_all P Q f [] each h = All-nil Q
mapped_all P Q f (x ∷ xs) each h = All-cons Q (f x) (map f xs) (each x (All-head P x xs h)) (mapped_all P Q f xs each (All-tail P x xs h))

pub Contains-from_get : {X : Type 0} (xs : List X) (k : ℕ) (x : X) → slice_get xs k ≡ Some x → Contains xs x
Contains-from_get xs k x e = (k, slice_get_within xs k x e, get_or_from_slice_get xs k x x e)

-- within a list there is an element
pub at_index : {X : Type 0} (xs : List X) (i : ℕ) → i < length xs → (x : X) × (slice_get xs i ≡ Some x)
at_index xs i lt = ⊎_elim
    (λ (x, within, got, read). (x, got))
    (λ (past, none). absurd (omega arith))
    (slice_get_cases xs i).1

pub one_item : {X : Type 0} (xs : List X) (k : ℕ) (x y : X) → slice_get xs k ≡ Some x → slice_get xs k ≡ Some y → x ≡ y
one_item xs k x y e f = cc

-- in a list with nothing twice, what stands at two places is two
pub one_place : {X : Type 0} (texts : List X) → AllPairs (λ x y. x ≢ y) texts → (a b : ℕ) (x : X) → slice_get texts a ≡ Some x → slice_get texts b ≡ Some x → a ≡ b
one_place texts differ a b x p q =
    let la = slice_get_within texts a x p in
    let lb = slice_get_within texts b x q in
    let ea = get_or_from_slice_get texts a x x p in
    let eb = get_or_from_slice_get texts b x x q in
    ⊎_elim
    (λ (lt : a < b). absurd (differ a b x lt lb (ea ∙ sym eb)))
    (λ (le : b ≤ a). ⊎_elim (λ (lt : b < a). absurd (differ b a x lt la (eb ∙ sym ea))) (λ (h : a ≤ b). let e : a ≡ b = omega arith in e) (cases_lt b a))
    (cases_lt a b)

pub all_middle : {X : Type 0} (P : X → Type 0) (done rest : List X) (x : X) → All P (done ++ x ∷ rest) → P x
all_middle P [] rest x h = All-head P x rest h
all_middle P (d ∷ done) rest x h = all_middle P done rest x (All-tail P d (done ++ x ∷ rest) h)

-- what holds of all holds of one
pub all_there : {X : Type 0} (P : X → Type 0) (xs : List X) (i : ℕ) (x : X) → All P xs → slice_get xs i ≡ Some x → P x
all_there P xs i x all e = subst P (get_or_from_slice_get xs i x x e) (all i x (slice_get_within xs i x e))

-- what holds of each, and what comes of it
pub All-weaker : {X : Type 0} (P Q : X → Type 0) → ((x : X) → P x → Q x) → (xs : List X) → All P xs → All Q xs
All-weaker P Q step xs all k d lt = step (get_or xs k d) (all k d lt)

pub none_passes : {X : Type 0} (p : X → Bool) (xs : List X) → position p xs ≡ None → (k : ℕ) (d : X) → k < length xs → p (get_or xs k d) ≡ false
none_passes p xs none k d h = ⊎_elim
    (λ (e : position_or_len p xs ≡ length xs). fails_before_first p xs k d (omega arith))
    (⊎_elim
    (λ (l : position_or_len p xs < length xs). let t : nat_lt (position_or_len p xs) (length xs) ≡ true = lt-ltb (position_or_len p xs) (length xs) l in
    absurd (let s : Some (position_or_len p xs) ≡ None = sym (ap (λ (b : Bool). cond b (Some (position_or_len p xs)) None) t) ∙ none in cc))
    (λ (l : length xs < position_or_len p xs). fails_before_first p xs k d (omega arith)))
    (cases_order (position_or_len p xs) (length xs))
