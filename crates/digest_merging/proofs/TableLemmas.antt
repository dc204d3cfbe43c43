-- The table of a merged digest, by the tables of both.
use Rattle.std.proofs.Common.{◌≡◌, ◌⊎◌, List, [], Bool, true, false, ◌||◌, refl, sym, ◌∙◌, ⊎_elim, inl, inr, Ordering}
use Rattle.std.specs.List.{AllZip, Contains}
use Rattle.trace_types.specs.NameOrder.{pair_cmp}
use Rattle.digest_facts.specs.Coherence.{ArePairsOf, IsCoherent}
use Rattle.digest_facts.specs.Digests.{Digest, TellsApart, merged, union}
use Rattle.digest_facts.specs.Tables.{has, name_byte, rows_from, task_byte}
use Rattle.digest_facts.proofs.MergeLemmas.{pair_apart}
use Rattle.digest_facts.proofs.TableLemmas.{has_from, has_to}
use Rattle.digest_facts.proofs.UnionLemmas.{union_has, union_rises}
use Rattle.digest_merging.specs.inner.MergedRows.{ArePlaces, joined_mark, mark_by, placed_rows}
use Rattle.digest_merging.specs.declared.places.Places.{Places}
use Rattle.digest_merging.proofs.MarkLemmas.{SaysNothing, joined}
use Rattle.digest_merging.proofs.PlaceLemmas.{merged_are}

or_true : (a b : Bool) → (a ≡ true) ⊎ (b ≡ true) → (a || b) ≡ true
or_true true b h = refl
or_true false b h = ⊎_elim (λ (e : false ≡ true). let e' : false ≡ true = e in cc) (λ (e : b ≡ true). e) h

-- two tests that pass together are one
same_test : (a b : Bool) → (a ≡ true → b ≡ true) → (b ≡ true → a ≡ true) → a ≡ b
same_test true b f g = sym (f refl)
same_test false true f g = g refl
same_test false false f g = refl

true_either : (a b : Bool) → (a || b) ≡ true → (a ≡ true) ⊎ (b ≡ true)
true_either true b h = inl refl
true_either false b h = inr h

not_true : (a : Bool) → (a ≡ true → ⊥) → a ≡ false
not_true true h = absurd (h refl)
not_true false h = refl

module _ {X : Type 0} (cmp : X → X → Ordering) (o : TellsApart cmp) where
  -- a union has what either has
  pub has_union : (xs ys : List X) (x : X) → has cmp (union cmp xs ys) x ≡ (has cmp xs x || has cmp ys x)
  has_union xs ys x = same_test (has cmp (union cmp xs ys) x) (has cmp xs x || has cmp ys x)
      (λ e. or_true (has cmp xs x) (has cmp ys x) (⊎_elim
      (λ (c : Contains xs x). inl (has_from cmp o xs x c))
      (λ (c : Contains ys x). inr (has_from cmp o ys x c))
      ((union_has cmp o xs ys x).0 (has_to cmp o (union cmp xs ys) x e))))
      (λ e. has_from cmp o (union cmp xs ys) x ((union_has cmp o xs ys x).1 (⊎_elim
      (λ (h : has cmp xs x ≡ true). inl (has_to cmp o xs x h))
      (λ (h : has cmp ys x ≡ true). inr (has_to cmp o ys x h))
      (true_either (has cmp xs x) (has cmp ys x) e))))

  -- pairs that are not together say nothing
  less_said : (more less : List (X × X)) (a b c d : X) → (Contains less (c, d) → Contains more (a, b)) → has (pair_cmp cmp) more (a, b) ≡ false → has (pair_cmp cmp) less (c, d) ≡ false
  less_said more less a b c d among e = not_true (has (pair_cmp cmp) less (c, d)) (λ h.
      let t : has (pair_cmp cmp) more (a, b) ≡ true = has_from (pair_cmp cmp) (pair_apart cmp o) more (a, b) (among (has_to (pair_cmp cmp) (pair_apart cmp o) less (c, d) h)) in
      let q : true ≡ false = sym t ∙ e in
      cc)

  -- no pair has an element that is not listed
  unlisted : (listed : List X) (more : List (X × X)) → ArePairsOf listed more → (a b : X) → (Contains listed a → ⊥) ⊎ (Contains listed b → ⊥) → has (pair_cmp cmp) more (a, b) ≡ false
  unlisted listed more are a b out = not_true (has (pair_cmp cmp) more (a, b)) (λ h.
      let c : Contains more (a, b) = has_to (pair_cmp cmp) (pair_apart cmp o) more (a, b) h in
      ⊎_elim (λ (n : Contains listed a → ⊥). n (are.first a b c)) (λ (n : Contains listed b → ⊥). n (are.second a b c)) out)

module _ {N T : Type 0} (by_name : N → N → Ordering) (by_task : T → T → Ordering) (on : TellsApart by_name) (ot : TellsApart by_task) (s t : Digest N T) (hs : IsCoherent by_name by_task s) (ht : IsCoherent by_name by_task t) where
  names_say : (r : Digest N T) → IsCoherent by_name by_task r → (a b : N) → SaysNothing (has (pair_cmp by_name) r.together (a, b)) (has (pair_cmp by_name) r.before (a, b)) (has (pair_cmp by_name) r.before (b, a)) (has (pair_cmp by_name) r.exclusive (a, b))
  names_say r h a b = record {
    first = less_said by_name on r.together r.before a b a b (h.before a b);
    second = less_said by_name on r.together r.before a b b a (λ c. h.together.turned b a (h.before b a c));
    third = less_said by_name on r.together r.exclusive a b a b (λ c. h.before a b (h.exclusive a b c));
  }

  tasks_say : (r : Digest N T) → IsCoherent by_name by_task r → (a b : T) → SaysNothing (has (pair_cmp by_task) r.shared (a, b)) (has (pair_cmp by_task) r.pipe (a, b)) (has (pair_cmp by_task) r.pipe (b, a)) false
  tasks_say r h a b = record {
    first = less_said by_task ot r.shared r.pipe a b a b (h.pipe a b);
    second = less_said by_task ot r.shared r.pipe a b b a (λ c. h.shared.turned b a (h.pipe b a c));
    third = λ e. refl;
  }

  names_joined : (a b : N) → joined_mark (name_byte by_name by_task s a b) (name_byte by_name by_task t a b) ≡ name_byte by_name by_task (merged by_name by_task s t) a b
  names_joined a b =
      let cmp = pair_cmp by_name in
      let op = pair_apart by_name on in
      joined _ _ _ _ _ _ _ _ (names_say s hs a b) (names_say t ht a b)
      ∙ rw (has_union cmp op s.together t.together (a, b), has_union cmp op s.before t.before (a, b), has_union cmp op s.before t.before (b, a), has_union cmp op s.exclusive t.exclusive (a, b)) refl

  tasks_joined : (a b : T) → joined_mark (task_byte by_name by_task s a b) (task_byte by_name by_task t a b) ≡ task_byte by_name by_task (merged by_name by_task s t) a b
  tasks_joined a b =
      let cmp = pair_cmp by_task in
      let op = pair_apart by_task ot in
      joined _ _ _ _ _ _ _ _ (tasks_say s hs a b) (tasks_say t ht a b)
      ∙ rw (has_union cmp op s.shared t.shared (a, b), has_union cmp op s.pipe t.pipe (a, b), has_union cmp op s.pipe t.pipe (b, a)) refl

  names_out : (r : Digest N T) → IsCoherent by_name by_task r → (a b : N) → (Contains r.names a → ⊥) ⊎ (Contains r.names b → ⊥) → name_byte by_name by_task r a b ≡ 46
  names_out r h a b out = rw (unlisted by_name on r.names r.together h.together a b out) refl

  tasks_out : (r : Digest N T) → IsCoherent by_name by_task r → (a b : T) → (Contains r.tasks a → ⊥) ⊎ (Contains r.tasks b → ⊥) → task_byte by_name by_task r a b ≡ 46
  tasks_out r h a b out = rw (unlisted by_task ot r.tasks r.shared h.shared a b out) refl

  pub names_merged : (ps : List Places) → AllZip (ArePlaces s.names t.names) (union by_name s.names t.names) ps
      → placed_rows (mark_by (rows_from (name_byte by_name by_task s) [] s.names) (rows_from (name_byte by_name by_task t) [] t.names)) [] (union by_name s.names t.names) ps
      ≡ rows_from (name_byte by_name by_task (merged by_name by_task s t)) [] (union by_name s.names t.names)
  names_merged ps places = merged_are by_name on (name_byte by_name by_task s) (name_byte by_name by_task t) (name_byte by_name by_task (merged by_name by_task s t)) s.names t.names (union by_name s.names t.names) ps
      hs.form.names ht.form.names (union_rises by_name on s.names t.names ht.form.names) (names_out s hs) (names_out t ht) names_joined places

  pub tasks_merged : (ps : List Places) → AllZip (ArePlaces s.tasks t.tasks) (union by_task s.tasks t.tasks) ps
      → placed_rows (mark_by (rows_from (task_byte by_name by_task s) [] s.tasks) (rows_from (task_byte by_name by_task t) [] t.tasks)) [] (union by_task s.tasks t.tasks) ps
      ≡ rows_from (task_byte by_name by_task (merged by_name by_task s t)) [] (union by_task s.tasks t.tasks)
  tasks_merged ps places = merged_are by_task ot (task_byte by_name by_task s) (task_byte by_name by_task t) (task_byte by_name by_task (merged by_name by_task s t)) s.tasks t.tasks (union by_task s.tasks t.tasks) ps
      hs.form.tasks ht.form.tasks (union_rises by_task ot s.tasks t.tasks ht.form.tasks) (tasks_out s hs) (tasks_out t ht) tasks_joined places
