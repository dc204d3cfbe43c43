-- What a merge of tables gives, and when it passes a limit.
use Rattle.std.proofs.Common.{◌≡◌, ℕ, ◌+◌, ◌-◌, ◌^◌, ◌<◌, ◌≤◌, List, [], ◌∷◌, ◌++◌, length, map, refl, sym, ap, ◌∙◌, subst, arith, false, Some, None, ◌↔◌, ⊎_elim, inl, inr}
use Rattle.std.specs.Prelude.{nat_lt}
use Rattle.std.specs.Cmp.Lexicographic.{slice_cmp}
use Rattle.std.specs.List.{AllZip, Contains}
use Rattle.std.specs.Ordering.{nat_cmp}
use Rattle.std.proofs.lemmas.Bool.{le-ltb, lt-ltb}
use Rattle.trace_types.specs.NameOrder.{name_cmp}
use Rattle.trace_types.specs.Segments.{SegmentName}
use Rattle.digest_facts.specs.Digests.{Digest, Rises, union}
use Rattle.digest_facts.specs.Tables.{Table, name_byte, rows_from, task_byte}
use Rattle.digest_facts.proofs.CoherenceLemmas.{merged_coherent}
use Rattle.digest_facts.proofs.MergeLemmas.{name_apart, text_apart}
use Rattle.digest_facts.proofs.UnionLemmas.{union_has}
use Rattle.digest_merging.specs.Limits.{limit_passed}
use Rattle.digest_merging.specs.Merges.{IsTableOf, IsTaskOfSome, merged_digest}
use Rattle.digest_merging.specs.inner.MergedRows.{ArePlaces, mark_by, placed_rows}
use Rattle.digest_merging.specs.declared.digest_limit.DigestLimit.TheVariants.{Names, Tasks, Traces}
use Rattle.digest_merging.specs.declared.places.Places.{Places}
use Rattle.digest_merging.proofs.TableLemmas.{names_merged, tasks_merged}

-- the elements of rows
pub keys_of : {X : Type 0} (f : X → X → ℕ) (earlier xs : List X) → map (λ (r : X × List ℕ). r.0) (rows_from f earlier xs) ≡ xs
keys_of f earlier [] = refl
keys_of {X} f earlier (x ∷ xs) = ap (λ (l : List X). x ∷ l) (keys_of f (earlier ++ x ∷ []) xs)

-- the tasks of a merge are those of its names
abbrev pub AreTasksOf : List (List ℕ) → List SegmentName → Type 0
AreTasksOf tasks names = (task : List ℕ) → Contains tasks task ↔ IsTaskOfSome names task

pub merged_tasks : (s t : Digest SegmentName (List ℕ)) → AreTasksOf s.tasks s.names → AreTasksOf t.tasks t.names → AreTasksOf (union (slice_cmp nat_cmp) s.tasks t.tasks) (union name_cmp s.names t.names)
merged_tasks s t h k task = (
  (λ c. ⊎_elim
      (λ (l : Contains s.tasks task). let n = (h task).0 l in (n.0, (union_has name_cmp name_apart s.names t.names n.0).1 (inl n.1), n.2))
      (λ (r : Contains t.tasks task). let n = (k task).0 r in (n.0, (union_has name_cmp name_apart s.names t.names n.0).1 (inr n.1), n.2))
      ((union_has (slice_cmp nat_cmp) text_apart s.tasks t.tasks task).0 c)),
  (λ n. (union_has (slice_cmp nat_cmp) text_apart s.tasks t.tasks task).1 (⊎_elim
      (λ (l : Contains s.names n.0). inl ((h task).1 (n.0, l, n.2)))
      (λ (r : Contains t.names n.0). inr ((k task).1 (n.0, r, n.2)))
      ((union_has name_cmp name_apart s.names t.names n.0).0 n.1))),
)

abbrev pub Name : Type 0
Name = SegmentName × List ℕ

abbrev pub Task : Type 0
Task = List ℕ × List ℕ

module _ (u v : Table SegmentName (List ℕ)) (s t : Digest SegmentName (List ℕ)) (hs : IsTableOf s u) (ht : IsTableOf t v) where
  pub names_left : map (λ (r : Name). r.0) u.names ≡ s.names
  names_left = ap (λ (w : Table SegmentName (List ℕ)). map (λ (r : Name). r.0) w.names) hs.table ∙ keys_of _ [] s.names

  names_right : map (λ (r : Name). r.0) v.names ≡ t.names
  names_right = ap (λ (w : Table SegmentName (List ℕ)). map (λ (r : Name). r.0) w.names) ht.table ∙ keys_of _ [] t.names

  pub tasks_left : map (λ (r : Task). r.0) u.tasks ≡ s.tasks
  tasks_left = ap (λ (w : Table SegmentName (List ℕ)). map (λ (r : Task). r.0) w.tasks) hs.table ∙ keys_of _ [] s.tasks

  tasks_right : map (λ (r : Task). r.0) v.tasks ≡ t.tasks
  tasks_right = ap (λ (w : Table SegmentName (List ℕ)). map (λ (r : Task). r.0) w.tasks) ht.table ∙ keys_of _ [] t.tasks

  pub names_are : (names : List SegmentName) → (Rises name_cmp (map (λ (r : Name). r.0) u.names) → Rises name_cmp (map (λ (r : Name). r.0) v.names) → names ≡ union name_cmp (map (λ (r : Name). r.0) u.names) (map (λ (r : Name). r.0) v.names)) → names ≡ union name_cmp s.names t.names
  names_are names h =
      h (subst (Rises name_cmp) (sym names_left) hs.coherent.form.names) (subst (Rises name_cmp) (sym names_right) ht.coherent.form.names)
      ∙ ap (λ (l : List SegmentName). union name_cmp l (map (λ (r : Name). r.0) v.names)) names_left ∙ ap (λ (l : List SegmentName). union name_cmp s.names l) names_right

  pub tasks_are : (tasks : List (List ℕ)) → (Rises (slice_cmp nat_cmp) (map (λ (r : Task). r.0) u.tasks) → Rises (slice_cmp nat_cmp) (map (λ (r : Task). r.0) v.tasks) → tasks ≡ union (slice_cmp nat_cmp) (map (λ (r : Task). r.0) u.tasks) (map (λ (r : Task). r.0) v.tasks)) → tasks ≡ union (slice_cmp nat_cmp) s.tasks t.tasks
  tasks_are tasks h =
      h (subst (Rises (slice_cmp nat_cmp)) (sym tasks_left) hs.coherent.form.tasks) (subst (Rises (slice_cmp nat_cmp)) (sym tasks_right) ht.coherent.form.tasks)
      ∙ ap (λ (l : List (List ℕ)). union (slice_cmp nat_cmp) l (map (λ (r : Task). r.0) v.tasks)) tasks_left ∙ ap (λ (l : List (List ℕ)). union (slice_cmp nat_cmp) s.tasks l) tasks_right

  pub days_are : (days : List ℕ) → (Rises nat_cmp u.days → Rises nat_cmp v.days → days ≡ union nat_cmp u.days v.days) → days ≡ union nat_cmp s.days t.days
  days_are days h =
      let du : u.days ≡ s.days = ap (λ (w : Table SegmentName (List ℕ)). w.days) hs.table in
      let dv : v.days ≡ t.days = ap (λ (w : Table SegmentName (List ℕ)). w.days) ht.table in
      h (subst (Rises nat_cmp) (sym du) hs.coherent.form.days) (subst (Rises nat_cmp) (sym dv) ht.coherent.form.days)
      ∙ ap (λ (l : List ℕ). union nat_cmp l v.days) du ∙ ap (λ (l : List ℕ). union nat_cmp s.days l) dv

  traces_are : u.traces + v.traces ≡ s.traces + t.traces
  traces_are = ap (λ (w : Table SegmentName (List ℕ)). w.traces + v.traces) hs.table ∙ ap (λ (w : Table SegmentName (List ℕ)). s.traces + w.traces) ht.table

  pub too_many_names : (names : List SegmentName) → names ≡ union name_cmp s.names t.names → 512 < length names → limit_passed (merged_digest s t) ≡ Some (Names (length names))
  too_many_names names e gt = rw (lt-ltb 512 (length (union name_cmp s.names t.names)) (omega (arith, gt, ap (λ (l : List SegmentName). length l) e))) (ap (λ (l : List SegmentName). Some (Names (length l))) (sym e))

  few_names : (names : List SegmentName) → names ≡ union name_cmp s.names t.names → length names ≤ 512 → nat_lt 512 (length (union name_cmp s.names t.names)) ≡ false
  few_names names e le = le-ltb 512 (length (union name_cmp s.names t.names)) (omega (arith, le, ap (λ (l : List SegmentName). length l) e))

  few_tasks : (tasks : List (List ℕ)) → tasks ≡ union (slice_cmp nat_cmp) s.tasks t.tasks → length tasks ≤ 64 → nat_lt 64 (length (union (slice_cmp nat_cmp) s.tasks t.tasks)) ≡ false
  few_tasks tasks e le = le-ltb 64 (length (union (slice_cmp nat_cmp) s.tasks t.tasks)) (omega (arith, le, ap (λ (l : List (List ℕ)). length l) e))

  pub too_many_tasks : (names : List SegmentName) (tasks : List (List ℕ)) → names ≡ union name_cmp s.names t.names → tasks ≡ union (slice_cmp nat_cmp) s.tasks t.tasks → length names ≤ 512 → 64 < length tasks → limit_passed (merged_digest s t) ≡ Some (Tasks (length tasks))
  too_many_tasks names tasks e f le gt =
      rw (few_names names e le, lt-ltb 64 (length (union (slice_cmp nat_cmp) s.tasks t.tasks)) (omega (arith, gt, ap (λ (l : List (List ℕ)). length l) f))) (ap (λ (l : List (List ℕ)). Some (Tasks (length l))) (sym f))

  pub too_many_traces : (names : List SegmentName) (tasks : List (List ℕ)) → names ≡ union name_cmp s.names t.names → tasks ≡ union (slice_cmp nat_cmp) s.tasks t.tasks → length names ≤ 512 → length tasks ≤ 64 → 2 ^ 64 ≤ u.traces + v.traces → limit_passed (merged_digest s t) ≡ Some Traces
  too_many_traces names tasks e f le lt gt =
      rw (few_names names e le, few_tasks tasks f lt, lt-ltb (2 ^ 64 - 1) (s.traces + t.traces) (omega (arith, gt, traces_are))) refl

  pub no_limit : (names : List SegmentName) (tasks : List (List ℕ)) → names ≡ union name_cmp s.names t.names → tasks ≡ union (slice_cmp nat_cmp) s.tasks t.tasks → length names ≤ 512 → length tasks ≤ 64 → u.traces + v.traces < 2 ^ 64 → limit_passed (merged_digest s t) ≡ None
  no_limit names tasks e f le lt gt =
      rw (few_names names e le, few_tasks tasks f lt, le-ltb (2 ^ 64 - 1) (s.traces + t.traces) (omega (arith, gt, traces_are))) refl

  -- ---- what the calls give, where they are passed the parts of the two tables
  module _ (firsts seconds : List Name) (e : firsts ≡ u.names) (f : seconds ≡ v.names) where
    pub names_from : (names : List SegmentName) → (Rises name_cmp (map (λ (r : Name). r.0) firsts) → Rises name_cmp (map (λ (r : Name). r.0) seconds) → names ≡ union name_cmp (map (λ (r : Name). r.0) firsts) (map (λ (r : Name). r.0) seconds)) → names ≡ union name_cmp s.names t.names
    names_from names h = names_are names (λ p q.
        h (subst (λ (l : List Name). Rises name_cmp (map (λ (r : Name). r.0) l)) (sym e) p) (subst (λ (l : List Name). Rises name_cmp (map (λ (r : Name). r.0) l)) (sym f) q)
        ∙ (λ i. union name_cmp (map (λ (r : Name). r.0) (e i)) (map (λ (r : Name). r.0) (f i))))

    pub name_rows_from : (names : List SegmentName) (out : List Name) → names ≡ union name_cmp s.names t.names
        → (places : List Places) × (Rises name_cmp (map (λ (r : Name). r.0) firsts) → Rises name_cmp (map (λ (r : Name). r.0) seconds) → AllZip (ArePlaces (map (λ (r : Name). r.0) firsts) (map (λ (r : Name). r.0) seconds)) names places) × (out ≡ placed_rows (mark_by firsts seconds) [] names places)
        → out ≡ rows_from (name_byte name_cmp (slice_cmp nat_cmp) (merged_digest s t)) [] (union name_cmp s.names t.names)
    name_rows_from names out is made =
        let a : firsts ≡ rows_from (name_byte name_cmp (slice_cmp nat_cmp) s) [] s.names = e ∙ ap (λ (w : Table SegmentName (List ℕ)). w.names) hs.table in
        let b : seconds ≡ rows_from (name_byte name_cmp (slice_cmp nat_cmp) t) [] t.names = f ∙ ap (λ (w : Table SegmentName (List ℕ)). w.names) ht.table in
        let left : map (λ (r : Name). r.0) firsts ≡ s.names = ap (λ (l : List Name). map (λ (r : Name). r.0) l) e ∙ names_left in
        let right : map (λ (r : Name). r.0) seconds ≡ t.names = ap (λ (l : List Name). map (λ (r : Name). r.0) l) f ∙ names_right in
        let placed : AllZip (ArePlaces (map (λ (r : Name). r.0) firsts) (map (λ (r : Name). r.0) seconds)) names made.0 = made.1 (subst (Rises name_cmp) (sym left) hs.coherent.form.names) (subst (Rises name_cmp) (sym right) ht.coherent.form.names) in
        let there : AllZip (ArePlaces s.names t.names) (union name_cmp s.names t.names) made.0 =
        subst (λ (l : List SegmentName). AllZip (ArePlaces s.names t.names) l made.0) is
        (subst (λ (l : List SegmentName). AllZip (ArePlaces s.names l) names made.0) right (subst (λ (l : List SegmentName). AllZip (ArePlaces l (map (λ (r : Name). r.0) seconds)) names made.0) left placed)) in
        made.2 ∙ (λ i. placed_rows (mark_by (a i) (b i)) [] (is i) made.0)
        ∙ names_merged name_cmp (slice_cmp nat_cmp) name_apart text_apart s t hs.coherent ht.coherent made.0 there

  module _ (firsts seconds : List Task) (e : firsts ≡ u.tasks) (f : seconds ≡ v.tasks) where
    pub tasks_from : (tasks : List (List ℕ)) → (Rises (slice_cmp nat_cmp) (map (λ (r : Task). r.0) firsts) → Rises (slice_cmp nat_cmp) (map (λ (r : Task). r.0) seconds) → tasks ≡ union (slice_cmp nat_cmp) (map (λ (r : Task). r.0) firsts) (map (λ (r : Task). r.0) seconds)) → tasks ≡ union (slice_cmp nat_cmp) s.tasks t.tasks
    tasks_from tasks h = tasks_are tasks (λ p q.
        h (subst (λ (l : List Task). Rises (slice_cmp nat_cmp) (map (λ (r : Task). r.0) l)) (sym e) p) (subst (λ (l : List Task). Rises (slice_cmp nat_cmp) (map (λ (r : Task). r.0) l)) (sym f) q)
        ∙ (λ i. union (slice_cmp nat_cmp) (map (λ (r : Task). r.0) (e i)) (map (λ (r : Task). r.0) (f i))))

    pub task_rows_from : (tasks : List (List ℕ)) (out : List Task) → tasks ≡ union (slice_cmp nat_cmp) s.tasks t.tasks
        → (places : List Places) × (Rises (slice_cmp nat_cmp) (map (λ (r : Task). r.0) firsts) → Rises (slice_cmp nat_cmp) (map (λ (r : Task). r.0) seconds) → AllZip (ArePlaces (map (λ (r : Task). r.0) firsts) (map (λ (r : Task). r.0) seconds)) tasks places) × (out ≡ placed_rows (mark_by firsts seconds) [] tasks places)
        → out ≡ rows_from (task_byte name_cmp (slice_cmp nat_cmp) (merged_digest s t)) [] (union (slice_cmp nat_cmp) s.tasks t.tasks)
    task_rows_from tasks out is made =
        let a : firsts ≡ rows_from (task_byte name_cmp (slice_cmp nat_cmp) s) [] s.tasks = e ∙ ap (λ (w : Table SegmentName (List ℕ)). w.tasks) hs.table in
        let b : seconds ≡ rows_from (task_byte name_cmp (slice_cmp nat_cmp) t) [] t.tasks = f ∙ ap (λ (w : Table SegmentName (List ℕ)). w.tasks) ht.table in
        let left : map (λ (r : Task). r.0) firsts ≡ s.tasks = ap (λ (l : List Task). map (λ (r : Task). r.0) l) e ∙ tasks_left in
        let right : map (λ (r : Task). r.0) seconds ≡ t.tasks = ap (λ (l : List Task). map (λ (r : Task). r.0) l) f ∙ tasks_right in
        let placed : AllZip (ArePlaces (map (λ (r : Task). r.0) firsts) (map (λ (r : Task). r.0) seconds)) tasks made.0 = made.1 (subst (Rises (slice_cmp nat_cmp)) (sym left) hs.coherent.form.tasks) (subst (Rises (slice_cmp nat_cmp)) (sym right) ht.coherent.form.tasks) in
        let there : AllZip (ArePlaces s.tasks t.tasks) (union (slice_cmp nat_cmp) s.tasks t.tasks) made.0 =
        subst (λ (l : List (List ℕ)). AllZip (ArePlaces s.tasks t.tasks) l made.0) is
        (subst (λ (l : List (List ℕ)). AllZip (ArePlaces s.tasks l) tasks made.0) right (subst (λ (l : List (List ℕ)). AllZip (ArePlaces l (map (λ (r : Task). r.0) seconds)) tasks made.0) left placed)) in
        made.2 ∙ (λ i. placed_rows (mark_by (a i) (b i)) [] (is i) made.0)
        ∙ tasks_merged name_cmp (slice_cmp nat_cmp) name_apart text_apart s t hs.coherent ht.coherent made.0 there

  module _ (firsts seconds : List ℕ) (e : firsts ≡ u.days) (f : seconds ≡ v.days) where
    pub days_from : (days : List ℕ) → (Rises nat_cmp firsts → Rises nat_cmp seconds → days ≡ union nat_cmp firsts seconds) → days ≡ union nat_cmp s.days t.days
    days_from days h = days_are days (λ p q. h (subst (Rises nat_cmp) (sym e) p) (subst (Rises nat_cmp) (sym f) q) ∙ (λ i. union nat_cmp (e i) (f i)))

  -- the merge is the table of the merged digest
  pub merged_table : (traces : ℕ) (days : List ℕ) (tasks : List Task) (names : List Name) → traces ≡ u.traces + v.traces → days ≡ union nat_cmp s.days t.days
      → tasks ≡ rows_from (task_byte name_cmp (slice_cmp nat_cmp) (merged_digest s t)) [] (union (slice_cmp nat_cmp) s.tasks t.tasks) → names ≡ rows_from (name_byte name_cmp (slice_cmp nat_cmp) (merged_digest s t)) [] (union name_cmp s.names t.names)
      → IsTableOf (merged_digest s t) (record { traces = traces; days = days; tasks = tasks; names = names })
  merged_table traces days tasks names a b c d =
      let total : traces ≡ s.traces + t.traces = a ∙ traces_are in
      record {
        coherent = merged_coherent name_cmp (slice_cmp nat_cmp) name_apart text_apart s t hs.coherent ht.coherent;
        tasks = merged_tasks s t hs.tasks ht.tasks;
        table = λ i. record { traces = total i; days = b i; tasks = c i; names = d i };
      }
