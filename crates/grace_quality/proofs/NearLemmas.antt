-- Relations that are nearly kept, name after name.
use Rattle.std.proofs.Common.{◌≡◌, ℕ, ◌+◌, ◌&&◌, Bool, true, false, not, eqb, ltb, All, List, [], ◌∷◌, ◌++◌, map, map-id, flat_map, ap, refl, sym, subst, ◌∙◌, arith, append-nil, append_assoc}
use Rattle.std.specs.Prelude.{if◌then◌else◌}
use Rattle.std.specs.List.{range_with_len, sum_by}
use Rattle.std.proofs.lemmas.Bool.{and_parts}
use Rattle.std.proofs.lemmas.List.Concat.{flat_map-append, flat_map-cons}
use Rattle.std.proofs.lemmas.List.Elements.{All-append, All-cons, All-nil}
use Rattle.std.proofs.lemmas.List.FromFn.{map-range_with_len_more}
use Rattle.std.proofs.lemmas.List.Sums.{sum_by_push}
use Rattle.evidence_rules.specs.declared.between.Between.{Between}
use Rattle.grace_quality.specs.Near.{are_fewer, exclusion_row, is_near_exclusion, is_near_order, is_slight, near_of, near_rows, order_row}
use Rattle.grace_quality.specs.declared.near.NearRelation.{NearRelation}

range_more : (n : ℕ) → range_with_len 0 (n + 1) ≡ range_with_len 0 n ++ n ∷ []
range_more n = sym (map-id (range_with_len 0 (n + 1))) ∙ (map-range_with_len_more (λ (x : ℕ). x) 0 n n (omega arith) ∙ ap (λ (l : List ℕ). l ++ n ∷ []) (map-id (range_with_len 0 n)))

pub near_more : (f : ℕ → List NearRelation) (n : ℕ) → flat_map f (range_with_len 0 (n + 1)) ≡ flat_map f (range_with_len 0 n) ++ f n
near_more f n = ap (flat_map f) (range_more n) ∙ (flat_map-append f (range_with_len 0 n) (n ∷ []) ∙ ap (λ (l : List NearRelation). flat_map f (range_with_len 0 n) ++ l) (append-nil (f n)))

-- behind others
pub near_more_behind : (before : List NearRelation) (f : ℕ → List NearRelation) (n : ℕ) → (before ++ flat_map f (range_with_len 0 n)) ++ f n ≡ before ++ flat_map f (range_with_len 0 (n + 1))
near_more_behind before f n = append_assoc before (flat_map f (range_with_len 0 n)) (f n) ∙ ap (λ (l : List NearRelation). before ++ l) (sym (near_more f n))

-- ---- all are slight

abbrev IsSlight : NearRelation → Type 0
IsSlight r = is_slight r.gap ≡ true

order_slight : (a b : ℕ) (f : Between) → (t : Bool) → is_near_order a b f ≡ t → All IsSlight (if t then order_row a b f ∷ [] else [])
order_slight a b f true e =
    let fewer = and_parts (not (eqb a b)) (are_fewer f.early f.traces && is_slight f.least) e in
    All-cons IsSlight (order_row a b f) [] (and_parts (are_fewer f.early f.traces) (is_slight f.least) fewer.1).1 (All-nil IsSlight)
order_slight a b f false e = All-nil IsSlight

exclusion_slight : (a b : ℕ) (f : Between) → (t : Bool) → is_near_exclusion a b f ≡ t → All IsSlight (if t then exclusion_row a b f ∷ [] else [])
exclusion_slight a b f true e =
    let fewer = and_parts (ltb a b) (are_fewer f.both f.traces && is_slight f.nearest) e in
    All-cons IsSlight (exclusion_row a b f) [] (and_parts (are_fewer f.both f.traces) (is_slight f.nearest) fewer.1).1 (All-nil IsSlight)
exclusion_slight a b f false e = All-nil IsSlight

pair_slight : (a b : ℕ) (f : Between) → All IsSlight (near_of a b f)
pair_slight a b f =
    All-append IsSlight (if is_near_order a b f then order_row a b f ∷ [] else []) (if is_near_exclusion a b f then exclusion_row a b f ∷ [] else [])
    (order_slight a b f (is_near_order a b f) refl) (exclusion_slight a b f (is_near_exclusion a b f) refl)

all_slight : (f : ℕ → List NearRelation) → ((k : ℕ) → All IsSlight (f k)) → (ks : List ℕ) → All IsSlight (flat_map f ks)
all_slight f each [] = All-nil IsSlight
all_slight f each (k ∷ ks) = subst (All IsSlight) (sym (flat_map-cons f k ks)) (All-append IsSlight (f k) (flat_map f ks) (each k) (all_slight f each ks))

pub rows_slight : (figures : ℕ → ℕ → Between) (names : ℕ) → All IsSlight (near_rows figures names)
rows_slight figures names =
    all_slight (λ a. flat_map (λ b. near_of a b (figures a b)) (range_with_len 0 names))
    (λ a. all_slight (λ b. near_of a b (figures a b)) (λ b. pair_slight a b (figures a b)) (range_with_len 0 names)) (range_with_len 0 names)

-- ---- sums

pub sum_more : (f : ℕ → ℕ) (n : ℕ) → sum_by f (range_with_len 0 (n + 1)) ≡ sum_by f (range_with_len 0 n) + f n
sum_more f n = ap (sum_by f) (range_more n) ∙ sum_by_push f (range_with_len 0 n) n
