-- Shades of cells, and figures by their place.
use Rattle.std.proofs.Common.{◌≡◌, ℕ, ◌<◌, ◌≤◌, ◌+◌, ◌-◌, ◌==◌, ◌⊎◌, inl, inr, List, Bool, true, false, get_or, length, refl, sym, ap, ◌∙◌, arith}
use Rattle.std.specs.Prelude.{if◌then◌else◌, min}
use Rattle.std.proofs.lemmas.Bool.{cases_lt, eqb-false, eqb-true}
use Rattle.std.proofs.lemmas.List.{get_or_past}
use Rattle.picture_parts.specs.Places.{PartsKeepOrder, part_of}
use Rattle.tail_picture.specs.Heats.{ShadeIsOnScale, ShadesKeepOrder, shade_of}

pub on_scale : ShadeIsOnScale
on_scale mean longest = by (mean == 0)
  where
    by : (b : Bool) → (if b then 0 else 1 + min 7 (part_of 8 mean longest)) ≤ 8
    by true = omega arith
    by false = omega arith

pub order : PartsKeepOrder → ShadesKeepOrder
order keep_order mean longer longest le = by (mean == 0) (longer == 0) refl refl (part_of 8 mean longest) (part_of 8 longer longest) (keep_order 8 mean longer longest le)
  where
    by : (b d : Bool) → (mean == 0) ≡ b → (longer == 0) ≡ d → (p q : ℕ) → p ≤ q → (if b then 0 else 1 + min 7 p) ≤ (if d then 0 else 1 + min 7 q)
    by true true e f p q h = omega arith
    by true false e f p q h = omega arith
    by false true e f p q h = absurd (omega (arith, eqb-false mean 0 e, eqb-true longer 0 f, le))
    by false false e f p q h = omega (arith, h)

-- behind the end of a list all places are as its end
pub clipped : (sums : List ℕ) (n place : ℕ) → place ≡ min n (length sums) → get_or sums place 0 ≡ get_or sums n 0
clipped sums n place e = by (cases_lt n (length sums))
  where
    by : (n < length sums) ⊎ (length sums ≤ n) → get_or sums place 0 ≡ get_or sums n 0
    by (inl lt) = let same : place ≡ n = omega (arith, e, lt) in ap (λ k. get_or sums k 0) same
    by (inr ge) = let same : length sums ≤ place = omega (arith, e, ge) in get_or_past sums place 0 same ∙ sym (get_or_past sums n 0 ge)
