-- Draws that go on from a state.
use Rattle.std.proofs.Common.{◌≡◌, ℕ, zero, suc, ◌+◌, ◌*◌, sym, ap, ◌∙◌, arith, add-suc, add-zero}
use Rattle.drill_input.specs.Draws.{draw, drawn, next_draw_state, draw_state_after}

-- draws after draws
state_after-add : (number a b : ℕ) → draw_state_after number (a + b) ≡ draw_state_after (draw_state_after number a) b
state_after-add number a zero = ap (draw_state_after number) (add-zero a)
state_after-add number a (suc b) = ap (draw_state_after number) (add-suc a b) ∙ ap next_draw_state (state_after-add number a b)

-- a trace's draws move the state on to the next trace's
pub state_moves_on : (number k before now : ℕ) → before ≡ draw_state_after number (5 * k) → now ≡ draw_state_after before 5 → now ≡ draw_state_after number (5 * (k + 1))
state_moves_on number k before now e f =
    let more : 5 * k + 5 ≡ 5 * (k + 1) = omega arith in
    f ∙ ap (λ x. draw_state_after x 5) e ∙ sym (state_after-add number (5 * k) 5) ∙ ap (draw_state_after number) more

-- a draw of those from a state is one of those from the number
pub draw-add : (number a i before : ℕ) → before ≡ draw_state_after number a → draw before i ≡ draw number (a + i)
draw-add number a i before e =
    let more : a + (i + 1) ≡ a + i + 1 = omega arith in
    ap (λ x. draw x i) e ∙ ap drawn (sym (state_after-add number a (i + 1)) ∙ ap (draw_state_after number) more)
