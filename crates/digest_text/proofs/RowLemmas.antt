-- The bytes of a row, field by field.
use Rattle.std.proofs.Common.{◌≡◌, ℕ, ◌-◌, ◌≤◌, List, [], ◌∷◌, ◌++◌, length, take, drop, get_or, map, arith, sym, ◌∙◌, ap, append_assoc}
use Rattle.std.proofs.lemmas.List.{append-nil, take_all}
use Rattle.std.specs.Borrow.{Bor}
use Rattle.std.specs.List.{flat_map, join_with_byte}

-- the fields of a row, each but the first behind a tab
joined : (first : Bor (List ℕ)) (fields : List (Bor (List ℕ))) → join_with_byte 9 (map (λ f. f.now) (first ∷ fields)) ≡ first.now ++ flat_map (λ f. 9 ∷ f.now) fields
joined first [] = sym (append-nil first.now)
joined first (next ∷ fields) = ap (λ t. first.now ++ (9 ∷ t)) (joined next fields)

-- the first field, and then the others
pub joined_from : (fields : List (Bor (List ℕ))) (d : Bor (List ℕ)) (old mid new : List ℕ) → 1 ≤ length fields → mid ≡ old ++ (get_or fields 0 d).now → new ≡ mid ++ flat_map (λ f. 9 ∷ f.now) (take (length fields - 1) (drop 1 fields)) → new ≡ old ++ join_with_byte 9 (map (λ f. f.now) fields)
joined_from [] d old mid new le e f = absurd (omega (arith, le))
joined_from (first ∷ fields) d old mid new le e f =
    let all : take (length (first ∷ fields) - 1) fields ≡ fields = take_all (length (first ∷ fields) - 1) fields (omega arith) in
    f ∙ ap (λ fs. mid ++ flat_map (λ g. 9 ∷ g.now) fs) all ∙ ap (λ t. t ++ flat_map (λ g. 9 ∷ g.now) fields) e
    ∙ append_assoc old first.now (flat_map (λ g. 9 ∷ g.now) fields) ∙ ap (λ t. old ++ t) (sym (joined first fields))
