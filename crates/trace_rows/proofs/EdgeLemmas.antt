-- The edges of a graph, vertex by vertex.
use Rattle.std.proofs.Common.{◌≡◌, ℕ, ◌+◌, ◌<◌, ◌≤◌, List, [], ◌∷◌, ◌++◌, length, take, get_or, refl, sym, ◌∙◌, ap, zero-add, length-append, arith}
use Rattle.std.specs.List.{flat_map, range_with_len}
use Rattle.std.proofs.lemmas.List.{take_all, take_more, flat_map_more, length-map}
use Rattle.std.proofs.lemmas.List.Concat.{flat_map_single}
use Rattle.std.proofs.lemmas.List.FromFn.{length-range_with_len, get_or-range_with_len}
use Rattle.std.proofs.lemmas.Grind.{flat_map-append}
use Rattle.session_rules.specs.TraceTexts.{edges_of}
use Rattle.weighted_dag.specs.Graphs.{Graph, order_of, successors_of}

-- the edges that begin with a vertex
abbrev pub edges_from : Graph → ℕ → List (ℕ × ℕ)
edges_from g v = flat_map (λ w. (v, w) ∷ []) (successors_of g v)

many_from : (g : Graph) (v : ℕ) → length (edges_from g v) ≡ length (successors_of g v)
many_from g v = ap length (flat_map_single (λ (w : ℕ). (v, w)) (successors_of g v)) ∙ length-map (successors_of g v) (λ (w : ℕ). (v, w))

-- the number at a place of a range
pub at : (n i : ℕ) → i < n → i ≡ get_or (range_with_len 0 n) i i
at n i lt = sym (get_or-range_with_len 0 n i i lt ∙ zero-add i)

pub within : (n i : ℕ) → i < n → i < length (range_with_len 0 n)
within n i lt = omega (arith, length-range_with_len 0 n)

pub past : (n i : ℕ) → n ≤ i → length (range_with_len 0 n) ≤ i
past n i le = omega (arith, length-range_with_len 0 n)

-- one vertex more
pub edges_next : (g : Graph) (n i count many : ℕ) → i < n → count ≡ length (flat_map (edges_from g) (take i (range_with_len 0 n))) → many ≡ length (successors_of g i) → count + many ≡ length (flat_map (edges_from g) (take (i + 1) (range_with_len 0 n)))
edges_next g n i count many lt so_far here =
    let more : flat_map (edges_from g) (take i (range_with_len 0 n)) ++ edges_from g i ≡ flat_map (edges_from g) (take (i + 1) (range_with_len 0 n)) =
    flat_map_more (edges_from g) [] (take i (range_with_len 0 n)) i ∙ ap (flat_map (edges_from g)) (sym (take_more (range_with_len 0 n) i i (within n i lt) ∙ ap (λ y. take i (range_with_len 0 n) ++ y ∷ []) (sym (at n i lt)))) in
    omega (arith, so_far, here, many_from g i, ap length more, length-append (flat_map (edges_from g) (take i (range_with_len 0 n))) (edges_from g i))

pub edges_all : (g : Graph) (n i count : ℕ) → n ≡ order_of g → n ≤ i → count ≡ length (flat_map (edges_from g) (take i (range_with_len 0 n))) → count ≡ length (edges_of g)
edges_all g n i count is le so_far = so_far ∙ (ap (λ xs. length (flat_map (edges_from g) xs)) (take_all i (range_with_len 0 n) (past n i le)) ∙ ap (λ m. length (flat_map (edges_from g) (range_with_len 0 m))) is)

-- rows of edges, one by one
rows_from : (row : ℕ × ℕ → List ℕ) (v : ℕ) (ws : List ℕ) → flat_map row (flat_map (λ w. (v, w) ∷ []) ws) ≡ flat_map (λ w. row (v, w)) ws
rows_from row v [] = refl
rows_from row v (w ∷ ws) = ap (λ t. row (v, w) ++ t) (rows_from row v ws)

rows_of : (row : ℕ × ℕ → List ℕ) (g : Graph) (vs : List ℕ) → flat_map row (flat_map (edges_from g) vs) ≡ flat_map (λ v. flat_map (λ w. row (v, w)) (successors_of g v)) vs
rows_of row g [] = refl
rows_of row g (v ∷ vs) = flat_map-append row (edges_from g v) (flat_map (edges_from g) vs)
    ∙ (ap (λ t. t ++ flat_map row (flat_map (edges_from g) vs)) (rows_from row v (successors_of g v)) ∙ ap (λ t. flat_map (λ w. row (v, w)) (successors_of g v) ++ t) (rows_of row g vs))

pub edge_rows_are : (row : ℕ × ℕ → List ℕ) (g : Graph) → flat_map (λ v. flat_map (λ w. row (v, w)) (successors_of g v)) (range_with_len 0 (order_of g)) ≡ flat_map row (edges_of g)
edge_rows_are row g = sym (rows_of row g (range_with_len 0 (order_of g)))
