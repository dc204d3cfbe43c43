-- Endings of the names of events differ in their last two bytes.
use Rattle.std.proofs.Common.{◌≡◌, ℕ, zero, suc, ◌+◌, ◌*◌, ◌<◌, List, [], ◌++◌, get_or, codes, refl, sym, ap, ◌∙◌, arith}
use Rattle.std.specs.Prelude.{reverse}
use Rattle.std.proofs.lemmas.List.{append_cancel_right, get_or_default, reverse-append}
use Rattle.name_laws.specs.GoodNames.{EventsTellEndings, endings}

-- the last two bytes of a text, where it is read from its end
abbrev mark : List ℕ → ℕ
mark text = get_or text 0 0 * 256 + get_or text 1 0

-- those of the endings
abbrev mark_of : ℕ → ℕ
mark_of zero = 29810
mark_of (suc zero) = 25710
mark_of (suc (suc zero)) = 29547
mark_of (suc (suc (suc i))) = 25701

code_at : (name : List ℕ) (i : ℕ) → i < 4 → mark (reverse (name ++ get_or endings i [])) ≡ mark_of i
code_at name zero lt = ap mark (reverse-append name (codes " start"))
code_at name (suc zero) lt = ap mark (reverse-append name (codes " end"))
code_at name (suc (suc zero)) lt = ap mark (reverse-append name (codes " forks"))
code_at name (suc (suc (suc zero))) lt = ap mark (reverse-append name (codes " joined"))
code_at name (suc (suc (suc (suc i)))) lt = absurd (omega (arith, lt))

same : (i j : ℕ) → i < 4 → j < 4 → mark_of i ≡ mark_of j → i ≡ j
same zero zero p q h = refl
same zero (suc zero) p q h = absurd (omega (arith, h))
same zero (suc (suc zero)) p q h = absurd (omega (arith, h))
same zero (suc (suc (suc zero))) p q h = absurd (omega (arith, h))
same (suc zero) zero p q h = absurd (omega (arith, h))
same (suc zero) (suc zero) p q h = refl
same (suc zero) (suc (suc zero)) p q h = absurd (omega (arith, h))
same (suc zero) (suc (suc (suc zero))) p q h = absurd (omega (arith, h))
same (suc (suc zero)) zero p q h = absurd (omega (arith, h))
same (suc (suc zero)) (suc zero) p q h = absurd (omega (arith, h))
same (suc (suc zero)) (suc (suc zero)) p q h = refl
same (suc (suc zero)) (suc (suc (suc zero))) p q h = absurd (omega (arith, h))
same (suc (suc (suc zero))) zero p q h = absurd (omega (arith, h))
same (suc (suc (suc zero))) (suc zero) p q h = absurd (omega (arith, h))
same (suc (suc (suc zero))) (suc (suc zero)) p q h = absurd (omega (arith, h))
same (suc (suc (suc zero))) (suc (suc (suc zero))) p q h = refl
same zero (suc (suc (suc (suc j)))) p q h = absurd (omega (arith, q))
same (suc zero) (suc (suc (suc (suc j)))) p q h = absurd (omega (arith, q))
same (suc (suc zero)) (suc (suc (suc (suc j)))) p q h = absurd (omega (arith, q))
same (suc (suc (suc zero))) (suc (suc (suc (suc j)))) p q h = absurd (omega (arith, q))
same (suc (suc (suc (suc i)))) j p q h = absurd (omega (arith, p))

pub endings_tell : EventsTellEndings
endings_tell name other ending end g h e = (append_cancel_right name other ending (e ∙ ap (λ (t : List ℕ). other ++ t) (sym is)), is)
  where
    first : get_or endings g.0 [] ≡ ending
    first = get_or_default endings g.0 [] ending g.1 ∙ g.2

    second : get_or endings h.0 [] ≡ end
    second = get_or_default endings h.0 [] end h.1 ∙ h.2

    marks : mark_of g.0 ≡ mark_of h.0
    marks = sym (code_at name g.0 g.1) ∙ ap (λ (t : List ℕ). mark (reverse t)) (ap (λ (t : List ℕ). name ++ t) first ∙ e ∙ ap (λ (t : List ℕ). other ++ t) (sym second)) ∙ code_at other h.0 h.1

    is : ending ≡ end
    is = sym first ∙ ap (λ i. get_or endings i []) (same g.0 h.0 g.1 h.1 marks) ∙ second
