-- The fields behind others.
use Rattle.std.proofs.Common.{◌≡◌, ℕ, ◌≤◌, List, length, map, take, drop, Bor, sym, ap, ◌∙◌}
use Rattle.std.proofs.lemmas.List.{drop-map, take_all}
use Rattle.page_rows.specs.Fields.{number_of, numbers_from, texts_of}

-- the texts from a place on
pub texts_from : (fields rest : List (Bor (List ℕ))) (place : ℕ) → rest ≡ drop place fields → texts_of rest ≡ drop place (texts_of fields)
texts_from fields rest place e = ap texts_of e ∙ sym (drop-map (λ (p : Bor (List ℕ)). p.now) place fields)

-- all numbers were read
pub numbers_all : (fields rest : List (Bor (List ℕ))) (place i : ℕ) (ns : List ℕ) → rest ≡ drop place fields → length rest ≤ i → ns ≡ map number_of (texts_of (take i rest)) → ns ≡ numbers_from (texts_of fields) place
numbers_all fields rest place i ns e le h =
    h ∙ ap (λ (xs : List (Bor (List ℕ))). map number_of (texts_of xs)) (take_all i rest le)
    ∙ ap (map number_of) (texts_from fields rest place e)
