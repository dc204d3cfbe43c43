-- Draws from a number, by a linear congruential sequence.
use Rattle.std.specs.Prelude.{ℕ, zero, suc, ◌+◌, ◌*◌, ◌/◌, ◌%◌}

-- the state that a draw leaves, from the state before it
unfoldable pub next_draw_state : ℕ → ℕ
next_draw_state x = (x * 1103515245 + 12345) % 2147483648

-- what a draw gives, from the state that it leaves: a number below 1000
abbrev pub drawn : ℕ → ℕ
drawn x = (x / 65536) % 1000

-- the state after this many draws from a number
abbrev pub draw_state_after : ℕ → ℕ → ℕ
draw_state_after number zero = number
draw_state_after number (suc count) = next_draw_state (draw_state_after number count)

-- the draw with this index, from 0, of those from a number
abbrev pub draw : ℕ → ℕ → ℕ
draw number index = drawn (draw_state_after number (index + 1))
