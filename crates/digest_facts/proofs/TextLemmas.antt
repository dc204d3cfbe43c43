-- A text tells its table.
use Rattle.std.proofs.Common.{◌≡◌, ℕ, suc, ◌^◌, ◌<◌, ◌==◌, Bool, true, false, List, [], ◌∷◌, ◌++◌, length, map, get_or, refl, sym, ap, ◌∙◌, arith, append_assoc, append-nil, codes, decimal}
use Rattle.std.specs.Prelude.{All, filter}
use Rattle.std.specs.List.{flat_map, join_with_byte, slice_split}
use Rattle.std.proofs.lemmas.Fmt.{decimal_injective}
use Rattle.std.proofs.lemmas.List.{append_cancel_left, append_cancel_right}
use Rattle.std.proofs.lemmas.List.Elements.{All-append, All-cons, All-head, All-nil, All-tail, filter-append}
use Rattle.std.proofs.lemmas.List.Splits.{slice_split_at, slice_split_none}
use Rattle.trace_types.specs.Segments.{SegmentName}
use Rattle.digest_facts.specs.Tables.{Table}
use Rattle.text_rows.specs.Rows.{figure, row_of}
use Rattle.digest_facts.specs.Texts.{IsUnbroken, TextsTellApart, all_rows, day_fields, header_fields, name_fields, rows_below, task_fields}
use Rattle.digest_facts.proofs.ListLemmas.{from_map}
use Rattle.digest_facts.proofs.SplitLemmas.{all_left, none_left}
use Rattle.digest_facts.proofs.TableLemmas.{first_same, rest_same}

abbrev is_tab : ℕ → Bool
is_tab b = b == 9

abbrev is_feed : ℕ → Bool
is_feed b = b == 10

-- ---- fields and lines come back
fields_back : (field : List ℕ) (fields : List (List ℕ)) → All IsUnbroken (field ∷ fields) → slice_split is_tab (join_with_byte 9 (field ∷ fields)) ≡ field ∷ fields
fields_back field [] h = slice_split_none is_tab field (All-head IsUnbroken field [] h).0
fields_back field (next ∷ fields) h =
    slice_split_at is_tab field 9 (join_with_byte 9 (next ∷ fields)) (All-head IsUnbroken field (next ∷ fields) h).0 refl
    ∙ ap (λ (fs : List (List ℕ)). field ∷ fs) (fields_back next fields (All-tail IsUnbroken field (next ∷ fields) h))

joined : (fields : List (List ℕ)) → All IsUnbroken fields → All (λ b. is_feed b ≡ false) (join_with_byte 9 fields)
joined [] h = All-nil (λ b. is_feed b ≡ false)
joined (field ∷ []) h = (All-head IsUnbroken field [] h).1
joined (field ∷ next ∷ fields) h =
    All-append (λ b. is_feed b ≡ false) field (9 ∷ join_with_byte 9 (next ∷ fields)) (All-head IsUnbroken field (next ∷ fields) h).1
    (All-cons (λ b. is_feed b ≡ false) 9 (join_with_byte 9 (next ∷ fields)) refl (joined (next ∷ fields) (All-tail IsUnbroken field (next ∷ fields) h)))

-- a row has a field
abbrev HasField : List (List ℕ) → Type 0
HasField fields = (first : List ℕ) × (rest : List (List ℕ)) × (fields ≡ first ∷ rest)

row_back : (fields : List (List ℕ)) → HasField fields → All IsUnbroken fields → slice_split is_tab (join_with_byte 9 fields) ≡ fields
row_back [] f h = let n : 0 ≡ suc (length f.1) = ap length f.2 in absurd (omega arith)
row_back (field ∷ fields) f h = fields_back field fields h

rows_back : (rows : List (List (List ℕ))) → All HasField rows → All (All IsUnbroken) rows → map (slice_split is_tab) (slice_split is_feed (flat_map row_of rows)) ≡ rows ++ ([] ∷ []) ∷ []
rows_back [] f h = refl
rows_back (row ∷ rows) f h =
    let fields = All-head (All IsUnbroken) row rows h in
    let line : List ℕ = join_with_byte 9 row in
    let rest : List ℕ = flat_map row_of rows in
    ap (λ (l : List ℕ). map (slice_split is_tab) (slice_split is_feed l)) (append_assoc line (10 ∷ []) rest)
    ∙ ap (map (slice_split is_tab)) (slice_split_at is_feed line 10 rest (joined row fields) refl)
    ∙ ap (λ (r : List (List ℕ)). r ∷ map (slice_split is_tab) (slice_split is_feed rest)) (row_back row (All-head HasField row rows f) fields)
    ∙ ap (λ (rs : List (List (List ℕ))). row ∷ rs) (rows_back rows (All-tail HasField row rows f) (All-tail (All IsUnbroken) row rows h))

pub same_rows : (rows others : List (List (List ℕ))) → All HasField rows → All HasField others → All (All IsUnbroken) rows → All (All IsUnbroken) others → flat_map row_of rows ≡ flat_map row_of others → rows ≡ others
same_rows rows others f g h k e =
    append_cancel_right rows others (([] ∷ []) ∷ [])
    (sym (rows_back rows f h) ∙ ap (λ (l : List ℕ). map (slice_split is_tab) (slice_split is_feed l)) e ∙ rows_back others g k)

-- ---- maps
each_of : {X Y : Type 0} (P : Y → Type 0) (f : X → Y) (xs : List X) → ((x : X) → P (f x)) → All P (map f xs)
each_of P f [] h = All-nil P
each_of P f (x ∷ xs) h = All-cons P (f x) (map f xs) (h x) (each_of P f xs h)

map_one : {X Y : Type 0} (f : X → Y) (P : X → Type 0) → ((x y : X) → P x → P y → f x ≡ f y → x ≡ y) → (xs ys : List X) → All P xs → All P ys → map f xs ≡ map f ys → xs ≡ ys
map_one f P one [] [] p q e = refl
map_one f P one [] (y ∷ ys) p q e = let n : 0 ≡ suc (length (map f ys)) = ap length e in absurd (omega arith)
map_one f P one (x ∷ xs) [] p q e = let n : suc (length (map f xs)) ≡ 0 = ap length e in absurd (omega arith)
map_one {X} f P one (x ∷ xs) (y ∷ ys) p q e =
    let head : x ≡ y = one x y (All-head P x xs p) (All-head P y ys q) (first_same (f x) (f y) (map f xs) (map f ys) e) in
    let tail : xs ≡ ys = map_one f P one xs ys (All-tail P x xs p) (All-tail P y ys q) (rest_same (f x) (f y) (map f xs) (map f ys) e) in
    λ i. head i ∷ tail i

-- ---- rows by their number of fields
abbrev has_length : ℕ → List (List ℕ) → Bool
has_length n row = length row == n

-- of mapped rows that have so many fields each all are left, and of others none
all_of : {X : Type 0} (f : X → List (List ℕ)) (n : ℕ) (xs : List X) → ((x : X) → has_length n (f x) ≡ true) → filter (has_length n) (map f xs) ≡ map f xs
all_of f n xs h = all_left (has_length n) (map f xs) (λ y c. let r = from_map f xs y c in sym (ap (has_length n) r.2) ∙ h r.0)

none_of : {X : Type 0} (f : X → List (List ℕ)) (n : ℕ) (xs : List X) → ((x : X) → has_length n (f x) ≡ false) → filter (has_length n) (map f xs) ≡ []
none_of f n xs h = none_left (has_length n) (map f xs) (λ y c. let r = from_map f xs y c in sym (ap (has_length n) r.2) ∙ h r.0)

parts_of : (n : ℕ) (u : Table SegmentName (List ℕ)) → filter (has_length n) (rows_below u) ≡ filter (has_length n) (map day_fields u.days) ++ (filter (has_length n) (map task_fields u.tasks) ++ filter (has_length n) (map name_fields u.names))
parts_of n u =
    filter-append (has_length n) (map day_fields u.days) (map task_fields u.tasks ++ map name_fields u.names)
    ∙ ap (λ (l : List (List (List ℕ))). filter (has_length n) (map day_fields u.days) ++ l) (filter-append (has_length n) (map task_fields u.tasks) (map name_fields u.names))

days_left : (u : Table SegmentName (List ℕ)) → filter (has_length 2) (rows_below u) ≡ map day_fields u.days
days_left u =
    let a = all_of day_fields 2 u.days (λ x. refl) in
    let b = none_of task_fields 2 u.tasks (λ x. refl) in
    let c = none_of name_fields 2 u.names (λ x. refl) in
    parts_of 2 u ∙ (λ i. a i ++ (b i ++ c i)) ∙ append-nil (map day_fields u.days)

tasks_left : (u : Table SegmentName (List ℕ)) → filter (has_length 3) (rows_below u) ≡ map task_fields u.tasks
tasks_left u =
    let a = none_of day_fields 3 u.days (λ x. refl) in
    let b = all_of task_fields 3 u.tasks (λ x. refl) in
    let c = none_of name_fields 3 u.names (λ x. refl) in
    parts_of 3 u ∙ (λ i. a i ++ (b i ++ c i)) ∙ append-nil (map task_fields u.tasks)

names_left : (u : Table SegmentName (List ℕ)) → filter (has_length 5) (rows_below u) ≡ map name_fields u.names
names_left u =
    let a = none_of day_fields 5 u.days (λ x. refl) in
    let b = none_of task_fields 5 u.tasks (λ x. refl) in
    let c = all_of name_fields 5 u.names (λ x. refl) in
    parts_of 5 u ∙ (λ i. a i ++ (b i ++ c i))

-- ---- what the fields of a row tell
task_one : (x y : List ℕ × List ℕ) → task_fields x ≡ task_fields y → x ≡ y
task_one x y e =
    let a : x.0 ≡ y.0 = ap (λ (r : List (List ℕ)). get_or r 1 []) e in
    let b : x.1 ≡ y.1 = ap (λ (r : List (List ℕ)). get_or r 2 []) e in
    λ i. (a i, b i)

name_one : (x y : SegmentName × List ℕ) → name_fields x ≡ name_fields y → x ≡ y
name_one x y e =
    let a : x.0.0 ≡ y.0.0 = ap (λ (r : List (List ℕ)). get_or r 1 []) e in
    let b : x.0.1 ≡ y.0.1 = ap (λ (r : List (List ℕ)). get_or r 2 []) e in
    let c : x.0.2 ≡ y.0.2 = ap (λ (r : List (List ℕ)). get_or r 3 []) e in
    let d : x.1 ≡ y.1 = ap (λ (r : List (List ℕ)). get_or r 4 []) e in
    λ i. ((a i, b i, c i), d i)

day_one : (x y : ℕ) → x < 2 ^ 64 → y < 2 ^ 64 → day_fields x ≡ day_fields y → x ≡ y
day_one x y p q e = decimal_injective x y p q (ap (λ (r : List (List ℕ)). get_or r 1 []) e)

figure_one : (name : List ℕ) (x y : ℕ) → x < 2 ^ 64 → y < 2 ^ 64 → figure name x ≡ figure name y → x ≡ y
figure_one name x y p q e = decimal_injective x y p q (append_cancel_left (name ++ codes "=") (decimal x) (decimal y) e)

-- ---- tables
rows_have : (u : Table SegmentName (List ℕ)) → All HasField (all_rows u)
rows_have u =
    All-cons HasField (header_fields u) (rows_below u) (_, _, refl)
    (All-append HasField (map day_fields u.days) (map task_fields u.tasks ++ map name_fields u.names) (each_of HasField day_fields u.days (λ x. (_, _, refl)))
    (All-append HasField (map task_fields u.tasks) (map name_fields u.names) (each_of HasField task_fields u.tasks (λ x. (_, _, refl))) (each_of HasField name_fields u.names (λ x. (_, _, refl)))))

everything : {X : Type 0} (xs : List X) → All (λ (x : X). Unit {0}) xs
everything xs = λ k d lt. tt

same_table : (u v : Table SegmentName (List ℕ)) → u.traces ≡ v.traces → u.days ≡ v.days → u.tasks ≡ v.tasks → u.names ≡ v.names → u ≡ v
same_table u v a b c d = λ i. record { traces = a i; days = b i; tasks = c i; names = d i }

pub texts_tell_apart : TextsTellApart
texts_tell_apart u v p q e =
    let rows = same_rows (all_rows u) (all_rows v) (rows_have u) (rows_have v) p.fields q.fields e in
    let header : header_fields u ≡ header_fields v = first_same (header_fields u) (header_fields v) (rows_below u) (rows_below v) rows in
    let below : rows_below u ≡ rows_below v = rest_same (header_fields u) (header_fields v) (rows_below u) (rows_below v) rows in
    same_table u v
    (figure_one (codes "traces") u.traces v.traces p.traces q.traces (ap (λ (r : List (List ℕ)). get_or r 1 []) header))
    (map_one day_fields (λ d. d < 2 ^ 64) day_one u.days v.days p.days q.days (sym (days_left u) ∙ ap (filter (has_length 2)) below ∙ days_left v))
    (map_one task_fields (λ (r : List ℕ × List ℕ). Unit {0}) (λ x y a b. task_one x y) u.tasks v.tasks (everything u.tasks) (everything v.tasks) (sym (tasks_left u) ∙ ap (filter (has_length 3)) below ∙ tasks_left v))
    (map_one name_fields (λ (r : SegmentName × List ℕ). Unit {0}) (λ x y a b. name_one x y) u.names v.names (everything u.names) (everything v.names) (sym (names_left u) ∙ ap (filter (has_length 5)) below ∙ names_left v))
