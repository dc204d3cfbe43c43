-- Lists whose items stand in a relation place by place.
use Rattle.std.proofs.Common.{◌≡◌, ℕ, zero, suc, ◌<◌, Some, List, [], ◌∷◌, ◌++◌, length, get_or, take, drop, ap, ◌∙◌, arith}
use Rattle.std.proofs.lemmas.Option.{get_or_from_slice_get, slice_get-get_or, slice_get_within}
use Rattle.std.specs.List.{AllPairs, AllZip, Any, Contains, slice_get}
use Rattle.trace_types.proofs.ZipLemmas.{zip_length}

-- what a list contains stands at some index
pub at_index : {X : Type 0} (xs : List X) (x : X) → Contains xs x → (k : ℕ) × (slice_get xs k ≡ Some x)
at_index {X} xs x c = (c.0, slice_get-get_or xs c.0 x c.1 ∙ ap (λ (v : X). Some v) c.2)

-- some item is one that stands at an index and has the property
pub any_at : {X : Type 0} (P : X → Type 0) (xs : List X) (k : ℕ) (x : X) → slice_get xs k ≡ Some x → P x → Any P xs
any_at P xs k x e p = (k, x, slice_get_within xs k x e, get_or_from_slice_get xs k x x e, p)

pub at_any : {X : Type 0} (P : X → Type 0) (xs : List X) → Any P xs → (k : ℕ) × (x : X) × (slice_get xs k ≡ Some x) × P x
at_any P xs h = let a = at_index xs h.1 (h.0, h.2, h.3) in (a.0, h.1, a.1, h.4)

-- ---- items that stand in a relation
pub zip_flip : {X Y : Type 0} (R : X → Y → Type 0) (xs : List X) (ys : List Y) → AllZip R xs ys → AllZip (λ y x. R x y) ys xs
zip_flip R [] [] z = z
zip_flip R [] (y ∷ ys) z = absurd z
zip_flip R (x ∷ xs) [] z = absurd z
zip_flip R (x ∷ xs) (y ∷ ys) z = (z.0, zip_flip R xs ys z.1)

pub zip_at : {X Y : Type 0} (R : X → Y → Type 0) (xs : List X) (ys : List Y) → AllZip R xs ys → (k : ℕ) (d : X) (e : Y) → k < length ys → R (get_or xs k d) (get_or ys k e)
zip_at R [] [] z k d e l = absurd (omega arith)
zip_at R [] (y ∷ ys) z k d e l = absurd z
zip_at R (x ∷ xs) [] z k d e l = absurd z
zip_at R (x ∷ xs) (y ∷ ys) z zero d e l = z.0
zip_at R (x ∷ xs) (y ∷ ys) z (suc k) d e l = zip_at R xs ys z.1 k d e (omega arith)

-- what holds of every two items of the one list holds of every two of the other
pub zip_pairs : {X Y : Type 0} (R : X → Y → Type 0) (D : X → X → Type 0) (E : Y → Y → Type 0) → ((w x : X) (v y : Y) → R w v → R x y → D w x → E v y)
    → (xs : List X) (ys : List Y) → AllZip R xs ys → AllPairs D xs → AllPairs E ys
zip_pairs R D E turn [] [] z p i j e l m = absurd (omega arith)
zip_pairs R D E turn [] (y ∷ ys) z p i j e l m = absurd z
zip_pairs R D E turn (x ∷ xs) [] z p i j e l m = absurd z
zip_pairs R D E turn (x ∷ xs) (y ∷ ys) z p i j e l m =
    let long = zip_length R (x ∷ xs) (y ∷ ys) z in
    turn (get_or (x ∷ xs) i x) (get_or (x ∷ xs) j x) (get_or (y ∷ ys) i e) (get_or (y ∷ ys) j e)
    (zip_at R (x ∷ xs) (y ∷ ys) z i x e (omega arith)) (zip_at R (x ∷ xs) (y ∷ ys) z j x e m) (p i j x l (omega arith))

pub zip_append : {X Y : Type 0} (R : X → Y → Type 0) (xs : List X) (ys : List Y) (vs : List X) (ws : List Y) → AllZip R xs ys → AllZip R vs ws → AllZip R (xs ++ vs) (ys ++ ws)
zip_append R [] [] vs ws z y = y
zip_append R [] (y ∷ ys) vs ws z v = absurd z
zip_append R (x ∷ xs) [] vs ws z v = absurd z
zip_append R (x ∷ xs) (y ∷ ys) vs ws z v = (z.0, zip_append R xs ys vs ws z.1 v)

pub zip_take : {X Y : Type 0} (R : X → Y → Type 0) (n : ℕ) (xs : List X) (ys : List Y) → AllZip R xs ys → AllZip R (take n xs) (take n ys)
zip_take R zero xs ys z = tt
zip_take R (suc n) [] [] z = z
zip_take R (suc n) [] (y ∷ ys) z = absurd z
zip_take R (suc n) (x ∷ xs) [] z = absurd z
zip_take R (suc n) (x ∷ xs) (y ∷ ys) z = (z.0, zip_take R n xs ys z.1)

pub zip_drop : {X Y : Type 0} (R : X → Y → Type 0) (n : ℕ) (xs : List X) (ys : List Y) → AllZip R xs ys → AllZip R (drop n xs) (drop n ys)
zip_drop R zero xs ys z = z
zip_drop R (suc n) [] [] z = z
zip_drop R (suc n) [] (y ∷ ys) z = absurd z
zip_drop R (suc n) (x ∷ xs) [] z = absurd z
zip_drop R (suc n) (x ∷ xs) (y ∷ ys) z = zip_drop R n xs ys z.1

-- items at one index of both lists, or what stands for them past the ends
pub zip_or : {X Y : Type 0} (R : X → Y → Type 0) (xs : List X) (ys : List Y) → AllZip R xs ys → (k : ℕ) (d : X) (e : Y) → R d e → R (get_or xs k d) (get_or ys k e)
zip_or R [] [] z k d e r = r
zip_or R [] (y ∷ ys) z k d e r = absurd z
zip_or R (x ∷ xs) [] z k d e r = absurd z
zip_or R (x ∷ xs) (y ∷ ys) z zero d e r = z.0
zip_or R (x ∷ xs) (y ∷ ys) z (suc k) d e r = zip_or R xs ys z.1 k d e r

-- ---- lists in which nothing stands twice
