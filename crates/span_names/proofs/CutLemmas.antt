-- Where a text is cut.
use Rattle.std.proofs.Common.{◌≡◌, ◌⊎◌, inl, inr, ℕ, zero, suc, ◌<◌, ◌≤◌, take, List, Bool, true, false, length, get_or, refl, sym, ap, ◌∙◌, arith}
use Rattle.std.specs.Prelude.{nat_le, if◌then◌else◌}
use Rattle.std.specs.Str.{IsCharBoundary}
use Rattle.std.proofs.lemmas.Bool.{and_parts, cases_order, leb-true, leb-false, and_cases}
use Rattle.std.proofs.Math.ListN.{get_or-eq_default}
use Rattle.std.proofs.lemmas.List.{take_all}
use Rattle.task_pieces.specs.PieceNames.{cut_length, is_inner_byte}

inner_bounds : (b : ℕ) → is_inner_byte b ≡ true → (128 ≤ b) × (b ≤ 191)
inner_bounds b h = let p = and_parts (nat_le 128 b) (nat_le b 191) h in (leb-true 128 b p.0, leb-true b 191 p.1)

first_bounds : (b : ℕ) → is_inner_byte b ≡ false → 128 ≤ b → 192 ≤ b
first_bounds b h low = by (and_cases (nat_le 128 b) (nat_le b 191) h)
  where
    by : (nat_le 128 b ≡ false) ⊎ (nat_le b 191 ≡ false) → 192 ≤ b
    by (inl e) = let l = leb-false 128 b e in absurd (omega arith)
    by (inr e) = let l = leb-false b 191 e in omega arith

pub cut_is : (text : List ℕ) (n r : ℕ) → n < length text → r ≤ n → IsCharBoundary text r → ((i : ℕ) → r < i → i ≤ n → IsCharBoundary text i → ⊥) → r ≡ cut_length text n
cut_is text zero r lt le boundary nearest = omega arith
cut_is text (suc n) r lt le boundary nearest = by (is_inner_byte (get_or text (suc n) 0)) refl (λ low. cut_is text n r (omega arith) low boundary (λ i l h. nearest i l (omega arith)))
  where
    by : (b : Bool) → is_inner_byte (get_or text (suc n) 0) ≡ b → (r ≤ n → r ≡ cut_length text n) → r ≡ cut_length text (suc n)
    by true e rest = rest (below (cases_order r (suc n))) ∙ ap (λ b. if b then cut_length text n else suc n) (sym e)
      where
        below : (r ≡ suc n) ⊎ ((r < suc n) ⊎ (suc n < r)) → r ≤ n
        below (inl same) =
            let p = inner_bounds (get_or text (suc n) 0) e in
            let byte : get_or text r 0 ≡ get_or text (suc n) 0 = ap (λ i. get_or text i 0) same in
            let high = boundary.1 (omega (arith, same, lt)) (omega (arith, p.0, byte)) in
            absurd (omega (arith, p.1, byte, high))
        below (inr (inl l)) = omega arith
        below (inr (inr l)) = absurd (omega arith)
    by false e rest = here (cases_order r (suc n)) ∙ ap (λ b. if b then cut_length text n else suc n) (sym e)
      where
        here : (r ≡ suc n) ⊎ ((r < suc n) ⊎ (suc n < r)) → r ≡ suc n
        here (inl same) = same
        here (inr (inl l)) = absurd (nearest (suc n) l (omega arith) (omega arith, λ within low. first_bounds (get_or text (suc n) 0) e low))
        here (inr (inr l)) = absurd (omega arith)

-- a text that has no byte at n is kept whole
pub kept_whole : (text : List ℕ) (n : ℕ) → length text ≤ suc n → take (cut_length text (suc n)) text ≡ text
kept_whole text n short = ap (λ b. take (if b then cut_length text n else suc n) text) none ∙ take_all (suc n) text short
  where
    none : is_inner_byte (get_or text (suc n) 0) ≡ false
    none = ap is_inner_byte (past text (suc n) short)
      where
        past : (xs : List ℕ) (i : ℕ) → length xs ≤ i → get_or xs i 0 ≡ 0
        past xs i h = get_or-eq_default xs 0 h

pub kept : (text : List ℕ) (most : ℕ) → 0 < most → length text ≤ most → text ≡ take (cut_length text most) text
kept text zero pos short = absurd (omega (arith, pos))
kept text (suc n) pos short = sym (kept_whole text n short)
