-- Values by number.
use Rattle.std.proofs.Common.{◌≡◌, ◌≢◌, ◌⊎◌, inl, inr, ℕ, suc, ◌+◌, ◌-◌, ◌<◌, ◌≤◌, List, [], ◌∷◌, ◌++◌, length, get_or, map, set, take, drop, replicate, refl, sym, ap, ◌∙◌, append-nil, arith, eq-eqb, eqb, true, false}
use Rattle.std.proofs.lemmas.Bool.{cases_eq, ne_eqb}
use Rattle.std.proofs.lemmas.List.{drop_all, drop_more, get_or-replicate, get_or-set_other, get_or-set_same, length-replicate, length-set, map-append, same_lists, take_all, take_more}
use Rattle.std.specs.List.{flat_map, position_or_len}
use Rattle.std.proofs.lemmas.Grind.{flat_map-append}
use Rattle.call_trees.specs.Tables.{table_of}
use Rattle.call_trees.proofs.TableLemmas.{get_or-table, length-table, table-suc}
use Rattle.context_names.specs.Scattering.{scattered, value_of}

one-add : (n : ℕ) → 1 + n ≡ suc n
one-add n = omega arith

value-same : (n v : ℕ) (ns vs : List ℕ) → value_of (n ∷ ns) (v ∷ vs) n ≡ v
value-same n v ns vs = let e : eqb n n ≡ true = eq-eqb n n refl in rw e refl

value-other : (n v x : ℕ) (ns vs : List ℕ) → x ≢ n → value_of (n ∷ ns) (v ∷ vs) x ≡ value_of ns vs x
value-other n v x ns vs other = let e : eqb n x ≡ false = ne_eqb n x (λ q. other (sym q)) in rw (e, one-add (position_or_len (λ m. eqb m x) ns)) refl

pub length-scattered : (count : ℕ) (ns vs : List ℕ) → length (scattered count ns vs) ≡ count
length-scattered count ns vs = length-table (value_of ns vs) count

pub get_or-scattered : (count : ℕ) (ns vs : List ℕ) (x d : ℕ) → x < count → get_or (scattered count ns vs) x d ≡ value_of ns vs x
get_or-scattered count ns vs x d lt = get_or-table (value_of ns vs) count x d lt

scattered_more : (count n v : ℕ) (ns vs : List ℕ) → n < count → scattered count (n ∷ ns) (v ∷ vs) ≡ set (scattered count ns vs) n v
scattered_more count n v ns vs low = same_lists (scattered count (n ∷ ns) (v ∷ vs)) (set (scattered count ns vs) n v) sizes at
  where
    long : n < length (scattered count ns vs)
    long = omega (arith, low, length-scattered count ns vs)

    sizes : length (scattered count (n ∷ ns) (v ∷ vs)) ≡ length (set (scattered count ns vs) n v)
    sizes = length-scattered count (n ∷ ns) (v ∷ vs) ∙ sym (length-set (scattered count ns vs) n v ∙ length-scattered count ns vs)

    at : (k d : ℕ) → k < length (scattered count (n ∷ ns) (v ∷ vs)) → get_or (scattered count (n ∷ ns) (v ∷ vs)) k d ≡ get_or (set (scattered count ns vs) n v) k d
    at k d lt = by (cases_eq k n)
      where
        within : k < count
        within = omega (arith, lt, length-scattered count (n ∷ ns) (v ∷ vs))

        by : (k ≡ n) ⊎ (k ≢ n) → get_or (scattered count (n ∷ ns) (v ∷ vs)) k d ≡ get_or (set (scattered count ns vs) n v) k d
        by (inl same) =
            ap (λ j. get_or (scattered count (n ∷ ns) (v ∷ vs)) j d) same ∙ get_or-scattered count (n ∷ ns) (v ∷ vs) n d low ∙ value-same n v ns vs
            ∙ sym (ap (λ j. get_or (set (scattered count ns vs) n v) j d) same ∙ get_or-set_same (scattered count ns vs) n v d long)
        by (inr other) =
            get_or-scattered count (n ∷ ns) (v ∷ vs) k d within ∙ value-other n v k ns vs other ∙ sym (get_or-scattered count ns vs k d within)
            ∙ sym (get_or-set_other (scattered count ns vs) n k v d other)

-- no number has a value yet
pub scattered_none : (count : ℕ) → replicate count 0 ≡ scattered count [] []
scattered_none count = same_lists (replicate count 0) (scattered count [] []) (length-replicate {A = ℕ} count 0 ∙ sym (length-scattered count [] []))
    (λ k d lt. get_or-replicate {A = ℕ} count k 0 d (omega (arith, lt, length-replicate {A = ℕ} count 0)) ∙ sym (get_or-scattered count [] [] k d (omega (arith, lt, length-replicate {A = ℕ} count 0))))

pub written_none : (numbers values all : List ℕ) (count : ℕ) → length values ≡ length numbers → all ≡ scattered count [] [] → all ≡ scattered count (drop (length numbers - 0) numbers) (drop (length numbers - 0) values)
written_none numbers values all count same h =
    h ∙ ap (λ (ns : List ℕ). scattered count ns []) (sym (drop_all (length numbers - 0) numbers (omega arith))) ∙ ap (scattered count (drop (length numbers - 0) numbers)) (sym (drop_all (length numbers - 0) values (omega (arith, same))))

pub written_more : (numbers values all new : List ℕ) (count left : ℕ) → length values ≡ length numbers → left < length numbers → get_or numbers (length numbers - 1 - left) 0 < count
    → all ≡ scattered count (drop (length numbers - left) numbers) (drop (length numbers - left) values) → new ≡ set all (get_or numbers (length numbers - 1 - left) 0) (get_or values (length numbers - 1 - left) 0)
    → new ≡ scattered count (drop (length numbers - (left + 1)) numbers) (drop (length numbers - (left + 1)) values)
written_more numbers values all new count left same lt low h step =
    step ∙ ap (λ (xs : List ℕ). set xs (get_or numbers at 0) (get_or values at 0)) (h ∙ ap (λ k. scattered count (drop k numbers) (drop k values)) next)
    ∙ sym (scattered_more count (get_or numbers at 0) (get_or values at 0) (drop (at + 1) numbers) (drop (at + 1) values) low)
    ∙ ap (λ (ns : List ℕ). scattered count ns (get_or values at 0 ∷ drop (at + 1) values)) (sym (drop_more numbers at 0 (omega arith)))
    ∙ ap (scattered count (drop at numbers)) (sym (drop_more values at 0 (omega (arith, same)))) ∙ ap (λ k. scattered count (drop k numbers) (drop k values)) here
  where
    at : ℕ
    at = length numbers - 1 - left

    next : length numbers - left ≡ length numbers - 1 - left + 1
    next = omega (arith, lt)

    here : length numbers - 1 - left ≡ length numbers - (left + 1)
    here = omega (arith, lt)

pub written_all : (numbers values all : List ℕ) (count left : ℕ) → length numbers ≤ left → all ≡ scattered count (drop (length numbers - left) numbers) (drop (length numbers - left) values) → all ≡ scattered count numbers values
written_all numbers values all count left le h = h ∙ ap (λ k. scattered count (drop k numbers) (drop k values)) (let e : length numbers - left ≡ 0 = omega (arith, le) in e)

-- ---- lists that are made one value after another

pub map_next : {X Y : Type 0} (f : X → Y) (xs : List X) (ys new : List Y) (x : X) (y : Y) (i : ℕ) → i < length xs → x ≡ get_or xs i x → ys ≡ map f (take i xs) → y ≡ f x → new ≡ ys ++ y ∷ [] → new ≡ map f (take (i + 1) xs)
map_next {X} {Y} f xs ys new x y i lt at h is step =
    step ∙ ap (λ (zs : List Y). zs ++ y ∷ []) h ∙ ap (λ z. map f (take i xs) ++ z ∷ []) is ∙ sym (map-append f (take i xs) (x ∷ []))
    ∙ ap (map f) (ap (λ z. take i xs ++ z ∷ []) at ∙ sym (take_more xs i x lt))

pub map_done : {X Y : Type 0} (f : X → Y) (xs : List X) (ys : List Y) (i : ℕ) → length xs ≤ i → ys ≡ map f (take i xs) → ys ≡ map f xs
map_done f xs ys i le h = h ∙ ap (map f) (take_all i xs le)

pub table_next : {X : Type 0} (f : ℕ → X) (xs new : List X) (x : X) (i : ℕ) → xs ≡ table_of f i → x ≡ f i → new ≡ xs ++ x ∷ [] → new ≡ table_of f (i + 1)
table_next {X} f xs new x i h is step = step ∙ ap (λ (zs : List X). zs ++ x ∷ []) h ∙ ap (λ z. table_of f i ++ z ∷ []) is ∙ sym (table-suc f i)

pub flat_next : (f : ℕ → List ℕ) (order : List ℕ) (i : ℕ) (old new part : List ℕ) → i < length order → old ≡ flat_map f (take i order) → part ≡ f (get_or order i 0) → new ≡ old ++ part → new ≡ flat_map f (take (i + 1) order)
flat_next f order i old new part lt h is step =
    step ∙ ap (λ (xs : List ℕ). xs ++ part) h ∙ ap (λ (xs : List ℕ). flat_map f (take i order) ++ xs) (is ∙ sym (append-nil (f (get_or order i 0))))
    ∙ sym (flat_map-append f (take i order) (get_or order i 0 ∷ [])) ∙ ap (flat_map f) (sym (take_more order i 0 lt))
