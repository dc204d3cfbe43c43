-- Texts that are appended one behind the other.
use Rattle.std.proofs.Common.{◌≡◌, ℕ, List, ◌++◌, Result, Ok, Err, OnOk, ap, ◌∙◌, append_assoc}

-- five texts, of which the last one may not fit
pub five_sent : {T E : Type 0} (r : Result T E) (b b1 b2 b3 b4 b5 t u v w x : List ℕ) → b1 ≡ b ++ t → b2 ≡ b1 ++ u → b3 ≡ b2 ++ v → b4 ≡ b3 ++ w → OnOk r (b5 ≡ b4 ++ x) → OnOk r (b5 ≡ b ++ (t ++ u ++ v ++ w ++ x))
five_sent (Ok y) b b1 b2 b3 b4 b5 t u v w x e1 e2 e3 e4 e5 =
    e5 ∙ ap (λ (s : List ℕ). s ++ x) (e4 ∙ ap (λ (s : List ℕ). s ++ w) (e3 ∙ ap (λ (s : List ℕ). s ++ v) (e2 ∙ ap (λ (s : List ℕ). s ++ u) e1))) ∙ flat
  where
    flat : ((((b ++ t) ++ u) ++ v) ++ w) ++ x ≡ b ++ (t ++ u ++ v ++ w ++ x)
    flat = simp append_assoc
five_sent (Err y) b b1 b2 b3 b4 b5 t u v w x e1 e2 e3 e4 e5 = tt
