-- The merge of two digests that can be read can be read.
use Rattle.std.proofs.Common.{◌≡◌, ◌≢◌, ℕ, zero, suc, ◌+◌, ◌-◌, ◌<◌, ◌≤◌, ◌^◌, List, [], ◌∷◌, length, get_or, map, Bool, true, false, Some, None, refl, sym, ◌∙◌, subst, ⊎_elim, inl, inr, arith, Ordering}
use Rattle.std.specs.Prelude.{All, Contains, nat_lt, if◌then◌else◌}
use Rattle.std.specs.Cmp.Lexicographic.{slice_cmp}
use Rattle.std.specs.List.{AllPairs}
use Rattle.std.specs.Ordering.{nat_cmp}
use Rattle.std.specs.declared.cmp.Ordering.TheVariants.{Less, Equal, Greater}
use Rattle.std.proofs.lemmas.Bool.{ltb-false}
use Rattle.std.proofs.lemmas.Cmp.{tied_itself}
use Rattle.std.proofs.lemmas.List.{length-map}
use Rattle.std.proofs.lemmas.List.Elements.{All-contains, Contains-get_or}
use Rattle.std.proofs.lemmas.Map.Made.{IsDistinct-from_AllPairs, is_member-Decides, length-le_from_is_member}
use Rattle.std.proofs.lemmas.Slice.Eq.{bytes_eq-Decides}
use Rattle.trace_types.specs.NameOrder.{name_cmp}
use Rattle.trace_types.specs.Segments.{SegmentName}
use Rattle.trace_types.proofs.ComparingLemmas.{text_laws}
use Rattle.certificates.specs.Claims.{name_of_texts, text_of}
use Rattle.digest_facts.specs.Digests.{Digest, Rises, TellsApart, placed, union, with_one}
use Rattle.digest_facts.proofs.CoherenceLemmas.{merged_coherent}
use Rattle.digest_facts.proofs.ListLemmas.{to_map}
use Rattle.digest_facts.proofs.MergeLemmas.{name_apart, nat_apart, text_apart}
use Rattle.digest_facts.proofs.UnionLemmas.{cons_here, union_has}
use Rattle.digest_merging.specs.Limits.{limit_passed}
use Rattle.digest_merging.specs.Merges.{merged_digest}
use Rattle.digest_merging.specs.declared.digest_limit.DigestLimit.TheVariants.{Names, Tasks, Traces}
use Rattle.digest_reading.specs.DigestRows.{latest_day}
use Rattle.digest_laws.specs.ReadableDigests.{IsReadable}
use Rattle.digest_laws.proofs.CountLemmas.{possible_from, possible_of}

-- ---- lengths of unions
placed_short : {X : Type 0} (c : Ordering) (x y : X) (ys more : List X) → length more ≤ suc (length ys) → length (placed c x y ys more) ≤ suc (suc (length ys))
placed_short Less x y ys more h = omega arith
placed_short Equal x y ys more h = omega arith
placed_short Greater x y ys more h = omega arith

one_short : {X : Type 0} (cmp : X → X → Ordering) (x : X) (ys : List X) → length (with_one cmp x ys) ≤ suc (length ys)
one_short cmp x [] = omega arith
one_short cmp x (y ∷ ys) = placed_short (cmp x y) x y ys (with_one cmp x ys) (one_short cmp x ys)

union_short : {X : Type 0} (cmp : X → X → Ordering) (xs ys : List X) → length (union cmp xs ys) ≤ length xs + length ys
union_short cmp [] ys = omega arith
union_short cmp (x ∷ xs) ys = omega (arith, one_short cmp x (union cmp xs ys), union_short cmp xs ys)

module _ {X : Type 0} (cmp : X → X → Ordering) (o : TellsApart cmp) where
  -- a union of which one list has an element has one
  some_left : (xs ys : List X) → 0 < length xs → 0 < length (union cmp xs ys)
  some_left [] ys h = absurd (omega arith)
  some_left (x ∷ xs) ys h =
      let c = (union_has cmp o (x ∷ xs) ys x).1 (inl (cons_here x xs)) in
      omega (arith, c.1)

  some_right : (xs ys : List X) → 0 < length ys → 0 < length (union cmp xs ys)
  some_right xs [] h = absurd (omega arith)
  some_right xs (y ∷ ys) h =
      let c = (union_has cmp o xs (y ∷ ys) y).1 (inr (cons_here y ys)) in
      omega (arith, c.1)

  -- what holds of all of both lists holds of their union
  union_all : (P : X → Type 0) (xs ys : List X) → All P xs → All P ys → All P (union cmp xs ys)
  union_all P xs ys p q = λ k d lt. ⊎_elim
      (λ (c : Contains xs (get_or (union cmp xs ys) k d)). All-contains P xs (get_or (union cmp xs ys) k d) p c)
      (λ (c : Contains ys (get_or (union cmp xs ys) k d)). All-contains P ys (get_or (union cmp xs ys) k d) q c)
      ((union_has cmp o xs ys (get_or (union cmp xs ys) k d)).0 (Contains-get_or (union cmp xs ys) k d lt))

  -- elements of a rising list differ
  pub all_differ : (xs : List X) → Rises cmp xs → AllPairs (λ x y. x ≢ y) xs
  all_differ xs up = λ i j d lt within e.
      let less : cmp (get_or xs i d) (get_or xs j d) ≡ Less = up i j d lt within in
      let tied : cmp (get_or xs i d) (get_or xs j d) ≡ Equal = subst (λ (v : X). cmp (get_or xs i d) v ≡ Equal) e (tied_itself o.total (get_or xs i d)) in
      let q : Less ≡ Equal = sym less ∙ tied in
      cc

-- different tasks, each of which some name has, are no more than names
pub no_more_tasks : (tasks : List (List ℕ)) (names : List SegmentName) → Rises (slice_cmp nat_cmp) tasks → ((task : List ℕ) → Contains tasks task → (name : SegmentName) × Contains names name × (name.0 ≡ task)) → length tasks ≤ length names
no_more_tasks tasks names up named =
    let firsts : List (List ℕ) = map (λ (n : SegmentName). n.0) names in
    let le : length tasks ≤ length firsts = length-le_from_is_member text_laws tasks firsts (IsDistinct-from_AllPairs bytes_eq-Decides tasks (all_differ (slice_cmp nat_cmp) text_apart tasks up))
    (λ q e.
    let r = named q ((is_member-Decides bytes_eq-Decides tasks q).0 e) in
    (is_member-Decides bytes_eq-Decides firsts q).1 (subst (λ (v : List ℕ). Contains firsts v) r.2 (to_map (λ (n : SegmentName). n.0) names r.0 r.1))) in
    omega (arith, le, length-map names (λ (n : SegmentName). n.0))

-- ---- limits
pub within : (a b c : Bool) (n t : ℕ) → (if a then Some (Names n) else (if b then Some (Tasks t) else (if c then Some Traces else None))) ≡ None → (a ≡ false) × (b ≡ false) × (c ≡ false)
within false false false n t h = (refl, refl, refl)
within true b c n t h = absurd (cc h)
within false true c n t h = absurd (cc h)
within false false true n t h = absurd (cc h)

-- a number above which nothing is
pub none_of : (n : ℕ) → (0 < n → ⊥) → n ≡ 0
none_of zero h = refl
none_of (suc n) h = absurd (h (omega arith))

-- where each name has its task listed, no task means no name
pub no_names : (names : List SegmentName) (tasks : List (List ℕ)) → ((name : SegmentName) → Contains names name → Contains tasks name.0) → length tasks ≡ 0 → length names ≡ 0
no_names [] tasks there none = refl
no_names (n ∷ names) tasks there none =
    let c = there n (cons_here n names) in
    absurd (omega (arith, c.1, none))

module _ (s t : Digest SegmentName (List ℕ)) (p : IsReadable s) (q : IsReadable t) (few : limit_passed (merged_digest s t) ≡ None) where
  task_there : (name : SegmentName) → Contains (union name_cmp s.names t.names) name → Contains (union (slice_cmp nat_cmp) s.tasks t.tasks) name.0
  task_there name c = (union_has (slice_cmp nat_cmp) text_apart s.tasks t.tasks name.0).1 (⊎_elim
      (λ (d : Contains s.names name). inl (p.listed name d))
      (λ (d : Contains t.names name). inr (q.listed name d))
      ((union_has name_cmp name_apart s.names t.names name).0 c))

  name_there : (task : List ℕ) → Contains (union (slice_cmp nat_cmp) s.tasks t.tasks) task → (name : SegmentName) × Contains (union name_cmp s.names t.names) name × (name.0 ≡ task)
  name_there task c = ⊎_elim
      (λ (d : Contains s.tasks task). let r = p.named task d in (r.0, (union_has name_cmp name_apart s.names t.names r.0).1 (inl r.1), r.2))
      (λ (d : Contains t.tasks task). let r = q.named task d in (r.0, (union_has name_cmp name_apart s.names t.names r.0).1 (inr r.1), r.2))
      ((union_has (slice_cmp nat_cmp) text_apart s.tasks t.tasks task).0 c)

  pub merged_readable : IsReadable (merged_digest s t)
  merged_readable =
      let names : List SegmentName = union name_cmp s.names t.names in
      let both : List (List ℕ) = union (slice_cmp nat_cmp) s.tasks t.tasks in
      let ps = possible_of (record { traces = s.traces; days = length s.days; tasks = length s.tasks; names = length s.names }) p.possible in
      let qs = possible_of (record { traces = t.traces; days = length t.days; tasks = length t.tasks; names = length t.names }) q.possible in
      let limits = within (nat_lt 512 (length names)) (nat_lt 64 (length both)) (nat_lt (2 ^ 64 - 1) (s.traces + t.traces)) (length names) (length both) few in
      let few_names : length names ≤ 512 = ltb-false 512 (length names) limits.0 in
      let few_tasks : length both ≤ 64 = ltb-false 64 (length both) limits.1 in
      let few_traces : s.traces + t.traces ≤ 2 ^ 64 - 1 = ltb-false (2 ^ 64 - 1) (s.traces + t.traces) limits.2 in
      let coherent = merged_coherent name_cmp (slice_cmp nat_cmp) name_apart text_apart s t p.coherent q.coherent in
      let name_sum : length names ≤ length s.names + length t.names = union_short name_cmp s.names t.names in
      let day_sum : length (union nat_cmp s.days t.days) ≤ length s.days + length t.days = union_short nat_cmp s.days t.days in
      record {
        coherent = coherent;
        task_texts = union_all (slice_cmp nat_cmp) text_apart (λ (x : List ℕ). text_of x ≡ Some x) s.tasks t.tasks p.task_texts q.task_texts;
        name_texts = union_all name_cmp name_apart (λ (n : SegmentName). name_of_texts n.0 n.1 n.2 ≡ Some n) s.names t.names p.name_texts q.name_texts;
        listed = task_there;
        named = name_there;
        possible = possible_from (record { traces = s.traces + t.traces; days = length (union nat_cmp s.days t.days); tasks = length both; names = length names }) (record {
          tasks = few_tasks;
          names = few_names;
          no_fewer = no_more_tasks both names coherent.form.tasks name_there;
          some_task = no_names names both task_there;
          some_trace = λ none.
              let a : length s.names ≡ 0 = ps.some_trace (omega (arith, none)) in
              let b : length t.names ≡ 0 = qs.some_trace (omega (arith, none)) in
              omega (arith, a, b, name_sum);
          no_more_days = omega (arith, day_sum, ps.no_more_days, qs.no_more_days);
          some_day = λ none. no_days none ps.some_day qs.some_day;
        });
        traces = omega (arith, few_traces);
        days = union_all nat_cmp nat_apart (λ (d : ℕ). d ≤ latest_day) s.days t.days p.days q.days;
      }
    where
      no_days : length (union nat_cmp s.days t.days) ≡ 0 → (length s.days ≡ 0 → s.traces ≡ 0) → (length t.days ≡ 0 → t.traces ≡ 0) → s.traces + t.traces ≡ 0
      no_days none a b =
          let left : length s.days ≡ 0 = none_of (length s.days) (λ some. omega (arith, none, some_left nat_cmp nat_apart s.days t.days some)) in
          let right : length t.days ≡ 0 = none_of (length t.days) (λ some. omega (arith, none, some_right nat_cmp nat_apart s.days t.days some)) in
          omega (arith, a left, b right)
