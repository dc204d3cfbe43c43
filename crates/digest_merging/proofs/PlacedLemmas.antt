-- Places that are found one after another, and rows that are made by them.
use Rattle.std.proofs.Common.{◌≡◌, ℕ, ◌+◌, ◌<◌, List, [], ◌∷◌, ◌++◌, length, map, drop, take, get_or, sym, ap, ◌∙◌, subst, append_assoc}
use Rattle.std.specs.List.{AllZip}
use Rattle.std.proofs.lemmas.List.{drop_more, take_more}
use Rattle.digest_merging.specs.inner.MergedRows.{placed_rows}
use Rattle.digest_merging.specs.declared.places.Places.{Places}

-- a pair more in a relation
zip_pushed : {X Y : Type 0} (R : X → Y → Type 0) (xs : List X) (ys : List Y) (x : X) (y : Y) → AllZip R xs ys → R x y → AllZip R (xs ++ x ∷ []) (ys ++ y ∷ [])
zip_pushed R [] [] x y z r = (r, tt)
zip_pushed R [] (b ∷ ys) x y z r = absurd z
zip_pushed R (a ∷ xs) [] x y z r = absurd z
zip_pushed R (a ∷ xs) (b ∷ ys) x y z r = (z.0, zip_pushed R xs ys x y z.1 r)

-- a pair more, by the index of its first
pub zip_more : {X Y : Type 0} (R : X → Y → Type 0) (xs : List X) (ys new : List Y) (k : ℕ) (x : X) (y : Y) → k < length xs → x ≡ get_or xs k x → new ≡ ys ++ y ∷ [] → AllZip R (take k xs) ys → R x y → AllZip R (take (k + 1) xs) new
zip_more {X} {Y} R xs ys new k x y lt is more z r =
    let firsts : take (k + 1) xs ≡ take k xs ++ x ∷ [] = take_more xs k x lt ∙ ap (λ (v : X). take k xs ++ v ∷ []) (sym is) in
    subst (λ (l : List X). AllZip R l new) (sym firsts) (subst (λ (l : List Y). AllZip R (take k xs ++ x ∷ []) l) (sym more) (zip_pushed R (take k xs) ys x y z r))

-- a row more: the rows so far, and those that are left
pub row_more : {X : Type 0} (F : Places → Places → ℕ) (rows new all : List (X × List ℕ)) (ps : List Places) (k : ℕ) (x : X) (p : Places) (marks : List ℕ) (before after : List X)
    → k < length ps → marks ≡ map (λ q. F q (get_or ps k p)) (take k ps) → before ≡ x ∷ after → new ≡ rows ++ (x, marks) ∷ []
    → rows ++ placed_rows F (take k ps) before (drop k ps) ≡ all → new ++ placed_rows F (take (k + 1) ps) after (drop (k + 1) ps) ≡ all
row_more {X} F rows new all ps k x p marks before after lt is here more h =
    let at : Places = get_or ps k p in
    let d : drop k ps ≡ at ∷ drop (k + 1) ps = drop_more ps k p lt in
    let t : take (k + 1) ps ≡ take k ps ++ at ∷ [] = take_more ps k p lt in
    let rest : List (X × List ℕ) = placed_rows F (take k ps ++ at ∷ []) after (drop (k + 1) ps) in
    let whole : rows ++ placed_rows F (take k ps) before (drop k ps) ≡ rows ++ (x, map (λ q. F q at) (take k ps)) ∷ rest =
    ap (λ (l : List X). rows ++ placed_rows F (take k ps) l (drop k ps)) here ∙ ap (λ (l : List Places). rows ++ placed_rows F (take k ps) (x ∷ after) l) d in
    ap (λ (l : List Places). new ++ placed_rows F l after (drop (k + 1) ps)) t
    ∙ ap (λ (l : List (X × List ℕ)). l ++ rest) (more ∙ ap (λ (ms : List ℕ). rows ++ (x, ms) ∷ []) is)
    ∙ append_assoc rows ((x, map (λ q. F q at) (take k ps)) ∷ []) rest ∙ sym whole ∙ h
