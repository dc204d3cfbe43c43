-- How the pieces of a line make it.
use Rattle.std.proofs.Common.{◌≡◌, ℕ, List, [], ◌∷◌, ◌++◌, codes, decimal, sym, ap, ◌∙◌, append_assoc, append-nil}
use Rattle.std.specs.List.{flat_map, join_with_byte}
use Rattle.drill_input.specs.DrillInput.{Line, line_of, text_member, number_member}

-- members after the first are each after a comma
joined : (x : List ℕ) (xs : List (List ℕ)) → join_with_byte 44 (x ∷ xs) ≡ x ++ flat_map (λ m. 44 ∷ m) xs
joined x [] = sym (append-nil x)
joined x (y ∷ ys) = ap (λ t. x ++ (44 ∷ t)) (joined y ys)

-- the pieces of a line, one after another
line_pieces : (head index quote machine task event name time message end : List ℕ)
    → ((head ++ (index ++ quote)) ++ 44 ∷ (machine ++ 44 ∷ (task ++ 44 ∷ (event ++ 44 ∷ ((name ++ time) ++ message))))) ++ end
    ≡ head ++ (index ++ (quote ++ ((44 ∷ machine) ++ ((44 ∷ task) ++ ((44 ∷ event) ++ ((44 ∷ name) ++ (time ++ (message ++ end))))))))
line_pieces head index quote machine task event name time message end = simp append_assoc

-- a line is its pieces
pub line_of_pieces : (k : ℕ) (line : Line) → line_of k line ≡ codes "{\"request\":\"r" ++ (decimal k ++ (codes "\"" ++ ((44 ∷ text_member (codes "machine") line.machine)
    ++ ((44 ∷ text_member (codes "task") line.task) ++ ((44 ∷ text_member (codes "event") line.event) ++ (codes ",\"time\":" ++ (decimal line.time
    ++ (flat_map (λ m. 44 ∷ m) line.message ++ codes "}\n"))))))))
line_of_pieces k line =
    rw (joined (number_member (codes "time") line.time) line.message)
    (line_pieces (codes "{\"request\":\"r") (decimal k) (codes "\"") (text_member (codes "machine") line.machine) (text_member (codes "task") line.task)
    (text_member (codes "event") line.event) (codes "\"time\":") (decimal line.time) (flat_map (λ m. 44 ∷ m) line.message) (codes "}\n"))

-- ten pieces that are appended in order
appended : (b0 b1 b2 b3 b4 b5 b6 b7 b8 b9 b10 p1 p2 p3 p4 p5 p6 p7 p8 p9 p10 : List ℕ)
    → b1 ≡ b0 ++ p1 → b2 ≡ b1 ++ p2 → b3 ≡ b2 ++ p3 → b4 ≡ b3 ++ p4 → b5 ≡ b4 ++ p5 → b6 ≡ b5 ++ p6 → b7 ≡ b6 ++ p7 → b8 ≡ b7 ++ p8 → b9 ≡ b8 ++ p9
    → b10 ≡ b9 ++ p10 → b10 ≡ b0 ++ (p1 ++ (p2 ++ (p3 ++ (p4 ++ (p5 ++ (p6 ++ (p7 ++ (p8 ++ (p9 ++ p10)))))))))
appended b0 b1 b2 b3 b4 b5 b6 b7 b8 b9 b10 p1 p2 p3 p4 p5 p6 p7 p8 p9 p10 e1 e2 e3 e4 e5 e6 e7 e8 e9 e10 =
    rw (e10, e9, e8, e7, e6, e5, e4, e3, e2, e1) (simp append_assoc)

-- the pieces, appended in order, are the line
pub line_appended : (n k : ℕ) (line seen : Line) (b0 b1 b2 b3 b4 b5 b6 b7 b8 b9 b10 : List ℕ) → n ≡ k → line ≡ seen
    → b1 ≡ b0 ++ codes "{\"request\":\"r" → b2 ≡ b1 ++ decimal n → b3 ≡ b2 ++ codes "\""
    → b4 ≡ b3 ++ 44 ∷ text_member (codes "machine") line.machine
    → b5 ≡ b4 ++ 44 ∷ text_member (codes "task") line.task
    → b6 ≡ b5 ++ 44 ∷ text_member (codes "event") line.event
    → b7 ≡ b6 ++ codes ",\"time\":" → b8 ≡ b7 ++ decimal line.time
    → b9 ≡ b8 ++ flat_map (λ m. 44 ∷ m) line.message → b10 ≡ b9 ++ codes "}\n"
    → b10 ≡ b0 ++ line_of k seen
line_appended n k line seen b0 b1 b2 b3 b4 b5 b6 b7 b8 b9 b10 is view e1 e2 e3 e4 e5 e6 e7 e8 e9 e10 =
    appended b0 b1 b2 b3 b4 b5 b6 b7 b8 b9 b10 _ _ _ _ _ _ _ _ _ _ e1 (e2 ∙ ap (λ m. b1 ++ decimal m) is) e3 e4 e5 e6 e7 e8 e9 e10
    ∙ ap (λ t. b0 ++ t) (sym (line_of_pieces k line) ∙ ap (line_of k) view)
