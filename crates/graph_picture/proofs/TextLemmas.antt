-- Texts that are appended one behind the other.
use Rattle.std.proofs.Common.{◌≡◌, ℕ, ◌<◌, ◌+◌, List, [], ◌∷◌, ◌++◌, Result, Ok, Err, OnOk, length, take, get_or, sym, ap, ◌∙◌, append_assoc, append-nil}
use Rattle.std.specs.List.{flat_map}
use Rattle.std.proofs.lemmas.List.{take_more}
use Rattle.std.proofs.lemmas.List.Concat.{flat_map-append}

-- the texts of elements, and that of the next one
pub flat_more : {X : Type 0} (f : X → List ℕ) (xs : List X) (i : ℕ) (d : X) (old b now : List ℕ) → i < length xs → b ≡ old ++ flat_map f (take i xs) → now ≡ b ++ f (get_or xs i d) → now ≡ old ++ flat_map f (take (i + 1) xs)
flat_more {X} f xs i d old b now lt told step =
    let more : flat_map f (take (i + 1) xs) ≡ flat_map f (take i xs) ++ f (get_or xs i d) =
    ap (λ (ys : List X). flat_map f ys) (take_more xs i d lt) ∙ flat_map-append f (take i xs) (get_or xs i d ∷ []) ∙ ap (λ (ys : List ℕ). flat_map f (take i xs) ++ ys) (append-nil (f (get_or xs i d))) in
    step ∙ ap (λ (ys : List ℕ). ys ++ f (get_or xs i d)) told ∙ append_assoc old (flat_map f (take i xs)) (f (get_or xs i d)) ∙ ap (λ (ys : List ℕ). old ++ ys) (sym more)

-- three texts, of which the last one may not fit
pub three_sent : {T E : Type 0} (r : Result T E) (b b1 b2 b3 t u v : List ℕ) → b1 ≡ b ++ t → b2 ≡ b1 ++ u → OnOk r (b3 ≡ b2 ++ v) → OnOk r (b3 ≡ b ++ (t ++ u ++ v))
three_sent (Ok y) b b1 b2 b3 t u v e1 e2 e3 = e3 ∙ ap (λ (s : List ℕ). s ++ v) (e2 ∙ ap (λ (s : List ℕ). s ++ u) e1) ∙ flat
  where
    flat : ((b ++ t) ++ u) ++ v ≡ b ++ (t ++ u ++ v)
    flat = simp append_assoc
three_sent (Err y) b b1 b2 b3 t u v e1 e2 e3 = tt
