-- How long the segments with a name last, on several paths.
use Rattle.trace_types.specs.declared.named_segment.NamedSegment.{NamedSegment}
use Rattle.std.proofs.Common.{ℕ, Bool, eqb, List, ◌≡◌, ◌++◌, map, ap, ◌∙◌, false, cond, [], ◌∷◌, All, refl, suc, zero, true, ◌||◌, length, get_or, arith, sym, ◌+◌, ◌<◌, ◌^◌, subst}
use Rattle.trace_types.specs.Parts.{by_number, segments_of}
use Rattle.trace_rules.specs.Durations.{durations_of, duration, has_name, paths_with, time_on}
use Rattle.std.specs.Prelude.{filter, sum}
use Rattle.std.proofs.lemmas.List.{map-append, length-append, get_or_default}
use Rattle.std.proofs.lemmas.List.Elements.{filter-append, All-head, All-tail, All-nil, All-cons}
use Rattle.std.proofs.lemmas.Bool.{eqb-true, ne_eqb}
use Rattle.trace_types.specs.NamedSegments.{number_of_name}
use Rattle.trace_types.specs.SegmentLists.{NamesDiffer}
use Rattle.std.specs.List.{flat_map, AllZip}
use Rattle.std.proofs.lemmas.List.Sums.{sum_by-cons, sum_by-append, count_by-le-length}
use Rattle.std.specs.Borrow.{Bor}
use Rattle.trace_types.specs.declared.named_trace.NamedTrace.{NamedTrace}
use Rattle.model_meet.specs.ModelStates.{ModelState}
use Rattle.model_meet.specs.RelationBits.{KeepsExclusion}
use Rattle.trace_rules.specs.CriticalPaths.{IsCriticalPath}
use Rattle.trace_paths.specs.Tables.{IsTableOf}
use Rattle.trace_paths.specs.NumberedPaths.{IsPathUnder, IsNamedPath}

abbrev pub Seg : Type 0
Seg = NamedSegment

-- the test for a name, and how long the segments with it last
abbrev pub with_name : ℕ → Seg → Bool
with_name n s = eqb s.name n

abbrev pub lasts : ℕ → List Seg → List ℕ
lasts n xs = durations_of by_number eqb n xs

pub lasts-append : (n : ℕ) (xs ys : List Seg) → lasts n (xs ++ ys) ≡ lasts n xs ++ lasts n ys
lasts-append n xs ys = ap (map (duration by_number)) (filter-append (with_name n) xs ys) ∙ map-append (duration by_number) (filter (with_name n) xs) (filter (with_name n) ys)

-- where no segment has the name, nothing lasts
pub none_lasts : (n : ℕ) (xs : List Seg) → All (λ (s : Seg). eqb s.name n ≡ false) xs → lasts n xs ≡ []
none_lasts n [] none = refl
none_lasts n (s ∷ xs) none =
    ap (λ (b : Bool). map (duration by_number) (cond b (s ∷ filter (with_name n) xs) (filter (with_name n) xs))) (All-head (λ (t : Seg). eqb t.name n ≡ false) s xs none)
    ∙ none_lasts n xs (All-tail (λ (t : Seg). eqb t.name n ≡ false) s xs none)

-- where names differ, at most one segment has a name
pub once : (n : ℕ) (xs : List Seg) → NamesDiffer number_of_name xs → length (lasts n xs) ≡ cond (has_name by_number eqb n xs) 1 0
once n [] differ = refl
once n (s ∷ xs) differ = go (once n xs (λ i j d lt within. differ (suc i) (suc j) d (omega arith) (omega arith))) (eqb s.name n) refl
  where
    go : length (lasts n xs) ≡ cond (has_name by_number eqb n xs) 1 0 → (b : Bool) → eqb s.name n ≡ b → length (lasts n (s ∷ xs)) ≡ cond (has_name by_number eqb n (s ∷ xs)) 1 0
    go rest true e =
        let same : s.name ≡ n = eqb-true s.name n e in
        let others : lasts n xs ≡ [] = none_lasts n xs (λ k d lt. ne_eqb (get_or xs k d).name n (λ t. differ zero (suc k) d (omega arith) (omega arith) (same ∙ sym t))) in
        ap (λ (b : Bool). length (map (duration by_number) (cond b (s ∷ filter (with_name n) xs) (filter (with_name n) xs)))) e
        ∙ (let one : suc (length (lasts n xs)) ≡ 1 = let z = ap length others in omega arith in one)
        ∙ sym (ap (λ (b : Bool). cond (b || has_name by_number eqb n xs) 1 0) e)
    go rest false e =
        ap (λ (b : Bool). length (map (duration by_number) (cond b (s ∷ filter (with_name n) xs) (filter (with_name n) xs)))) e
        ∙ (rest ∙ sym (ap (λ (b : Bool). cond (b || has_name by_number eqb n xs) 1 0) e))

abbrev pub joined : List (List Seg) → List Seg
joined xss = flat_map (λ (xs : List Seg). xs) xss

-- so as many of the lists have the name as segments of all of them do
pub once_each : (n : ℕ) (xss : List (List Seg)) → All (NamesDiffer number_of_name) xss → length (lasts n (joined xss)) ≡ paths_with by_number eqb n xss
once_each n [] differ = refl
once_each n (xs ∷ xss) differ =
    let one = once n xs (All-head (NamesDiffer number_of_name) xs xss differ) in
    let rest = once_each n xss (All-tail (NamesDiffer number_of_name) xs xss differ) in
    ap length (lasts-append n xs (joined xss)) ∙ (length-append (lasts n xs) (lasts n (joined xss))
    ∙ (ap (λ k. k + length (lasts n (joined xss))) one ∙ (ap (λ k. cond (has_name by_number eqb n xs) 1 0 + k) rest
    ∙ sym (sum_by-cons (λ (path : List Seg). cond (has_name by_number eqb n path) 1 0) xs xss))))

-- and they last together as long as they do in each list
pub time_each : (n : ℕ) (xss : List (List Seg)) → sum (lasts n (joined xss)) ≡ time_on by_number eqb n xss
time_each n [] = refl
time_each n (xs ∷ xss) =
    ap sum (lasts-append n xs (joined xss)) ∙ (sum_by-append (λ (k : ℕ). k) (lasts n xs) (lasts n (joined xss))
    ∙ (ap (λ k. sum (lasts n xs) + k) (time_each n xss) ∙ sym (sum_by-cons (λ (path : List Seg). sum (lasts n path)) xs xss)))

-- the traces that a list of references shows
abbrev pub traces_at : List (Bor NamedTrace) → List NamedTrace
traces_at ts = map (λ (t : Bor NamedTrace). t.now) ts

abbrev pub segments_at : List (Bor NamedTrace) → List Seg
segments_at ts = flat_map (λ (t : Bor NamedTrace). t.now.segments) ts

pub segments_shown : (ts : List (Bor NamedTrace)) → segments_at ts ≡ segments_of by_number (traces_at ts)
segments_shown [] = refl
segments_shown (t ∷ ts) = ap (λ (l : List Seg). t.now.segments ++ l) (segments_shown ts)

pub latencies_shown : (ts : List (Bor NamedTrace)) → map (λ (t : Bor NamedTrace). t.now.latency) ts ≡ map (λ (t : NamedTrace). t.latency) (traces_at ts)
latencies_shown [] = refl
latencies_shown (t ∷ ts) = ap (λ l. t.now.latency ∷ l) (latencies_shown ts)

-- the paths of a parallel map are the critical paths by the bits of the model's words
pub paths_are : (model : ModelState) (ts : List (Bor NamedTrace)) (paths : List (List Seg)) → AllZip (λ (t : Bor NamedTrace) path. IsPathUnder model t.now path) ts paths → AllZip (IsCriticalPath by_number (KeepsExclusion model.words)) (traces_at ts) paths
paths_are model [] [] all = all
paths_are model [] (p ∷ ps) all = all
paths_are model (t ∷ ts) [] all = all
paths_are model (t ∷ ts) (p ∷ ps) all = (all.0.critical, paths_are model ts ps all.1)

pub paths_named : (model : ModelState) (ts : List (Bor NamedTrace)) (paths : List (List Seg)) → AllZip (λ (t : Bor NamedTrace) path. IsPathUnder model t.now path) ts paths → All (IsNamedPath model.names) paths
paths_named model [] [] all = All-nil (IsNamedPath model.names)
paths_named model [] (p ∷ ps) all = absurd all
paths_named model (t ∷ ts) [] all = absurd all
paths_named model (t ∷ ts) (p ∷ ps) all = All-cons (IsNamedPath model.names) p ps all.0.named (paths_named model ts ps all.1)

-- the lists of a table are short
pub short_table : (names : ℕ) (xss : List (List Seg)) (xs : List Seg) (table : List (List ℕ)) → IsTableOf names xs table → xs ≡ joined xss → All (NamesDiffer number_of_name) xss → length xss < 2 ^ 32 → All (λ (ns : List ℕ). length ns < 2 ^ 32) table
short_table names xss xs table t is differ few n d lt =
    let count = t.count in
    let list : get_or table n d ≡ lasts n (joined xss) = get_or_default table n d [] lt ∙ (t.lists n (omega arith) ∙ ap (lasts n) is) in
    let many = once_each n xss differ in
    let most = count_by-le-length (has_name by_number eqb n) xss in
    subst (λ (ns : List ℕ). length ns < 2 ^ 32) (sym list) (omega arith)

pub short_paths : (names : ℕ) (paths : List (List Seg)) (table : List (List ℕ)) → IsTableOf names (joined paths) table → All (IsNamedPath names) paths → length paths < 2 ^ 32 → All (λ (ns : List ℕ). length ns < 2 ^ 32) table
short_paths names paths table t named few = short_table names paths (joined paths) table t refl (λ k d lt. (named k d lt).differ) few
