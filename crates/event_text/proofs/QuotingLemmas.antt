-- Texts that need no backslash, and appends one after another.
use Rattle.std.proofs.Common.{◌≡◌, ℕ, suc, ◌==◌, ◌||◌, ◌++◌, List, [], ◌∷◌, false, length, refl, ap, ◌∙◌, arith, append_assoc}
use Rattle.std.specs.Prelude.{if◌then◌else◌}
use Rattle.std.specs.List.{flat_map}
use Rattle.std.proofs.lemmas.Bool.{false_from_ne_true}
use Rattle.event_text.specs.LineTexts.{escaped_byte}
use Rattle.memchr.specs.Find.{Nowhere, Passes, is_byte2}

pub none_escaped : (text : List ℕ) → Nowhere (Passes (is_byte2 34 92) text) 0 (length text) → flat_map escaped_byte text ≡ text
none_escaped [] h = refl
none_escaped (x ∷ text) h =
    let plain : (x == 34 || x == 92) ≡ false = false_from_ne_true (x == 34 || x == 92) (h 0 (omega arith) (omega arith)) in
    ap (λ b. (if b then 92 ∷ x ∷ [] else x ∷ []) ++ flat_map escaped_byte text) plain
    ∙ ap (λ (ys : List ℕ). x ∷ ys) (none_escaped text (λ k low high. h (suc k) (omega arith) (omega arith)))

-- an append after others, and two
pub more : (b b1 b2 x y : List ℕ) → b1 ≡ b ++ x → b2 ≡ b1 ++ y → b2 ≡ b ++ (x ++ y)
more b b1 b2 x y p q = q ∙ ap (λ t. t ++ y) p ∙ append_assoc b x y

pub two_more : (b b1 b2 x y z : List ℕ) → b1 ≡ b ++ x → b2 ≡ b1 ++ y ++ z → b2 ≡ b ++ (x ++ y ++ z)
two_more b b1 b2 x y z p q = q ∙ ap (λ t. t ++ y ++ z) p ∙ ap (λ t. t ++ z) (append_assoc b x y) ∙ append_assoc b (x ++ y) z
