-- The elements of lists that are made of others.
use Rattle.std.proofs.Common.{◌≡◌, ◌⊎◌, ℕ, ◌+◌, ◌<◌, List, length, get_or, take, refl, sym, subst, inl, inr, ⊎_elim}
use Rattle.std.specs.List.{Contains, Any}
use Rattle.trace_types.proofs.ElementLemmas.{Contains-more, Contains-before, Contains-now}

pub Any-of : {X : Type 0} (P : X → Type 0) (xs : List X) (x : X) → Contains xs x → P x → Any P xs
Any-of P xs x c p = (c.0, x, c.1, c.2, p)

-- whether some element of one more has P
pub Any-more : {X : Type 0} (P : X → Type 0) (xs : List X) (i : ℕ) (x : X) → i < length xs → x ≡ get_or xs i x → Any P (take (i + 1) xs) → Any P (take i xs) ⊎ P x
Any-more P xs i x lt e a =
    ⊎_elim (λ (c : Contains (take i xs) a.1). inl (Any-of P (take i xs) a.1 c a.4)) (λ (f : x ≡ a.1). inr (subst P (sym f) a.4))
    (Contains-more xs i x lt e a.1 (a.0, a.2, a.3))

pub Any-before : {X : Type 0} (P : X → Type 0) (xs : List X) (i : ℕ) (x : X) → i < length xs → Any P (take i xs) → Any P (take (i + 1) xs)
Any-before P xs i x lt a = Any-of P (take (i + 1) xs) a.1 (Contains-before xs i x lt a.1 (a.0, a.2, a.3)) a.4

pub Any-now : {X : Type 0} (P : X → Type 0) (xs : List X) (i : ℕ) (x : X) → i < length xs → x ≡ get_or xs i x → P x → Any P (take (i + 1) xs)
Any-now P xs i x lt e p = Any-of P (take (i + 1) xs) x (Contains-now xs i x lt e x refl) p

-- ---- maps, and lists joined end to end
