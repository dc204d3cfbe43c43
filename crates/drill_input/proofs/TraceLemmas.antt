-- One line more of a trace, and one trace more of an input.
use Rattle.std.proofs.Common.{◌≡◌, ℕ, zero, suc, ◌+◌, ◌*◌, ◌≤◌, ◌<◌, List, [], ◌∷◌, ◌++◌, length, get_or, take, sym, ap, ◌∙◌, arith, add-one, add-zero, zero-add}
use Rattle.std.proofs.lemmas.List.{flat_map_more, take_all, take_more}
use Rattle.std.specs.List.{flat_map, range_with_len}
use Rattle.drill_input.specs.Draws.{draw, draw_state_after}
use Rattle.drill_input.specs.DrillInput.{drill_input, line_of, lines_of, trace_start, lines_of_trace}
use Rattle.drill_input.proofs.DrawLemmas.{draw-add}

-- the texts of one item more
pub one_item_more : {X : Type 0} (f : X → List ℕ) (xs : List X) (i : ℕ) (x : X) (old mid new : List ℕ) → i < length xs → x ≡ get_or xs i x
    → mid ≡ old ++ flat_map f (take i xs) → new ≡ mid ++ f x → new ≡ old ++ flat_map f (take (i + 1) xs)
one_item_more f xs i x old mid new lt is e g =
    let more : take (i + 1) xs ≡ take i xs ++ x ∷ [] = take_more xs i x lt ∙ ap (λ y. take i xs ++ y ∷ []) (sym is) in
    g ∙ ap (λ t. t ++ f x) e ∙ flat_map_more f old (take i xs) x ∙ ap (λ ys. old ++ flat_map f ys) (sym more)

-- the texts of all items
pub all_items : {X : Type 0} (f : X → List ℕ) (xs : List X) (i : ℕ) (old new : List ℕ) → length xs ≤ i
    → new ≡ old ++ flat_map f (take i xs) → new ≡ old ++ flat_map f xs
all_items f xs i old new le e = e ∙ ap (λ ys. old ++ flat_map f ys) (take_all i xs le)

-- one number more
range_suc : (a n : ℕ) → range_with_len a (suc n) ≡ range_with_len a n ++ (a + n) ∷ []
range_suc a zero = ap (λ m. m ∷ []) (sym (add-zero a))
range_suc a (suc n) = ap (λ ms. a ∷ ms) (range_suc (a + 1) n ∙ ap (λ m. range_with_len (a + 1) n ++ m ∷ []) (omega arith))

range_more : (n : ℕ) → range_with_len 0 (n + 1) ≡ range_with_len 0 n ++ n ∷ []
range_more n = ap (range_with_len 0) (add-one n) ∙ range_suc 0 n ∙ ap (λ m. range_with_len 0 n ++ m ∷ []) (zero-add n)

-- equal draws make equal texts
same_draws : (text : ℕ → ℕ → ℕ → ℕ → ℕ → List ℕ) (d1 d2 d3 d4 d5 e1 e2 e3 e4 e5 : ℕ) → d1 ≡ e1 → d2 ≡ e2 → d3 ≡ e3 → d4 ≡ e4 → d5 ≡ e5
    → text d1 d2 d3 d4 d5 ≡ text e1 e2 e3 e4 e5
same_draws text d1 d2 d3 d4 d5 e1 e2 e3 e4 e5 p1 p2 p3 p4 p5 = cc

-- the lines of one trace more
pub one_trace_more : (number k before d1 d2 d3 d4 d5 : ℕ) (old new : List ℕ) → old ≡ drill_input number k → before ≡ draw_state_after number (5 * k)
    → d1 ≡ draw before 0 → d2 ≡ draw before 1 → d3 ≡ draw before 2 → d4 ≡ draw before 3 → d5 ≡ draw before 4
    → new ≡ old ++ flat_map (line_of k) (lines_of (trace_start k) d1 d2 d3 d4 d5) → new ≡ drill_input number (k + 1)
one_trace_more number k before d1 d2 d3 d4 d5 old new e s e1 e2 e3 e4 e5 f =
    let lines : ℕ → ℕ → ℕ → ℕ → ℕ → List ℕ = λ x1 x2 x3 x4 x5. flat_map (line_of k) (lines_of (trace_start k) x1 x2 x3 x4 x5) in
    let same : lines d1 d2 d3 d4 d5 ≡ lines_of_trace number k = same_draws lines d1 d2 d3 d4 d5 _ _ _ _ _
    (e1 ∙ draw-add number (5 * k) 0 before s ∙ ap (draw number) (add-zero (5 * k))) (e2 ∙ draw-add number (5 * k) 1 before s)
    (e3 ∙ draw-add number (5 * k) 2 before s) (e4 ∙ draw-add number (5 * k) 3 before s) (e5 ∙ draw-add number (5 * k) 4 before s) in
    f ∙ ap (λ t. t ++ lines d1 d2 d3 d4 d5) e ∙ ap (λ t. drill_input number k ++ t) same
    ∙ flat_map_more (lines_of_trace number) [] (range_with_len 0 k) k ∙ ap (flat_map (lines_of_trace number)) (sym (range_more k))
