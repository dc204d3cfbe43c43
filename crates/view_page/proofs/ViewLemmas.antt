-- Texts that are appended one behind the other.
use Rattle.std.proofs.Common.{◌≡◌, ℕ, List, [], ◌++◌, ap, ◌∙◌}

-- nine texts into an empty list
pub whole : (b b1 b2 b3 b4 b5 b6 b7 b8 b9 t u w x y z v r g : List ℕ) → b ≡ [] → b1 ≡ b ++ t → b2 ≡ b1 ++ u → b3 ≡ b2 ++ w → b4 ≡ b3 ++ x → b5 ≡ b4 ++ y → b6 ≡ b5 ++ z → b7 ≡ b6 ++ v → b8 ≡ b7 ++ r → b9 ≡ b8 ++ g → b9 ≡ t ++ u ++ w ++ x ++ y ++ z ++ v ++ r ++ g
whole b b1 b2 b3 b4 b5 b6 b7 b8 b9 t u w x y z v r g e0 e1 e2 e3 e4 e5 e6 e7 e8 e9 =
    e9 ∙ ap (λ s. s ++ g) (e8 ∙ ap (λ s. s ++ r) (e7 ∙ ap (λ s. s ++ v) (e6 ∙ ap (λ s. s ++ z) (e5 ∙ ap (λ s. s ++ y) (e4 ∙ ap (λ s. s ++ x) (e3 ∙ ap (λ s. s ++ w) (e2 ∙ ap (λ s. s ++ u) (e1 ∙ ap (λ s. s ++ t) e0))))))))
