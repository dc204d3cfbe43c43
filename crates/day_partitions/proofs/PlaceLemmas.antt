-- Which id stands at a place, and which places have a row of their own.
use Rattle.std.proofs.Common.{◌≡◌, ℕ, ◌-◌, ◌<◌, ◌≤◌, true, ◌||◌, ◌==◌, nat_lt, cond, List, get_or, Option, None, is_some, unwrap_or, ap, ◌∙◌, arith}
use Rattle.std.proofs.lemmas.Bool.{lt-ltb, le-ltb}
use Rattle.day_partitions.specs.inner.Nodes.{id_at, owns_row}

pub id_inner : (nodes : List ℕ) (leaves : List (Option ℕ)) (n : ℕ) → n < 64 → id_at nodes leaves n ≡ get_or nodes n 0
unfolding id_at
id_inner nodes leaves n l = ap (λ b. cond b (get_or nodes n 0) (cond (nat_lt n 128) (unwrap_or (get_or leaves (n - 64) None) (get_or nodes 65 0)) (get_or nodes (n - 64) 0))) (lt-ltb n 64 l)

pub id_leaf : (nodes : List ℕ) (leaves : List (Option ℕ)) (n : ℕ) → 64 ≤ n → n < 128 → id_at nodes leaves n ≡ unwrap_or (get_or leaves (n - 64) None) (get_or nodes 65 0)
unfolding id_at
id_leaf nodes leaves n low high =
    ap (λ b. cond b (get_or nodes n 0) (cond (nat_lt n 128) (unwrap_or (get_or leaves (n - 64) None) (get_or nodes 65 0)) (get_or nodes (n - 64) 0))) (le-ltb n 64 low)
    ∙ ap (λ b. cond b (unwrap_or (get_or leaves (n - 64) None) (get_or nodes 65 0)) (get_or nodes (n - 64) 0)) (lt-ltb n 128 high)

pub id_last : (nodes : List ℕ) (leaves : List (Option ℕ)) (n : ℕ) → 128 ≤ n → id_at nodes leaves n ≡ get_or nodes (n - 64) 0
unfolding id_at
id_last nodes leaves n low =
    ap (λ b. cond b (get_or nodes n 0) (cond (nat_lt n 128) (unwrap_or (get_or leaves (n - 64) None) (get_or nodes 65 0)) (get_or nodes (n - 64) 0))) (le-ltb n 64 (omega arith))
    ∙ ap (λ b. cond b (unwrap_or (get_or leaves (n - 64) None) (get_or nodes 65 0)) (get_or nodes (n - 64) 0)) (le-ltb n 128 low)

pub own_inner : (leaves : List (Option ℕ)) (n : ℕ) → n < 64 → owns_row leaves n ≡ true
unfolding owns_row
own_inner leaves n l = ap (λ b. b || (cond (nat_lt n 128) (is_some (get_or leaves (n - 64) None)) (n == 128))) (lt-ltb n 64 l)

pub own_leaf : (leaves : List (Option ℕ)) (n : ℕ) → 64 ≤ n → n < 128 → owns_row leaves n ≡ is_some (get_or leaves (n - 64) None)
unfolding owns_row
own_leaf leaves n low high =
    ap (λ b. b || (cond (nat_lt n 128) (is_some (get_or leaves (n - 64) None)) (n == 128))) (le-ltb n 64 low)
    ∙ ap (λ b. cond b (is_some (get_or leaves (n - 64) None)) (n == 128)) (lt-ltb n 128 high)

pub own_last : (leaves : List (Option ℕ)) (n : ℕ) → 128 ≤ n → owns_row leaves n ≡ (n == 128)
unfolding owns_row
own_last leaves n low =
    ap (λ b. b || (cond (nat_lt n 128) (is_some (get_or leaves (n - 64) None)) (n == 128))) (le-ltb n 64 (omega arith))
    ∙ ap (λ b. cond b (is_some (get_or leaves (n - 64) None)) (n == 128)) (le-ltb n 128 low)
