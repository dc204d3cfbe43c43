-- The catalogue of the names of a digest.
use Rattle.std.proofs.Common.{◌≡◌, ◌≢◌, ◌⊎◌, ◌↔◌, ℕ, suc, ◌+◌, ◌<◌, Bool, true, false, not, true≢false, List, [], ◌∷◌, ◌++◌, length, map, filter, take, get_or, refl, sym, ap, ◌∙◌, subst, ⊎_elim, inl, inr, arith, Ordering}
use Rattle.std.specs.Prelude.{All, AllPairs, Contains}
use Rattle.std.specs.Cmp.Lexicographic.{slice_cmp}
use Rattle.std.specs.Ordering.{nat_cmp, ordering_then}
use Rattle.std.specs.Str.{bytes_eq}
use Rattle.std.specs.declared.cmp.Ordering.TheVariants.{Less, Equal, Greater}
use Rattle.std.proofs.lemmas.Bool.{cases_Bool, not_from_false, not_from_true}
use Rattle.std.proofs.lemmas.Cmp.{tied_itself}
use Rattle.std.proofs.lemmas.List.{append-nil, get_or-map, get_or-take, get_or_default, length-map, length-take-le, take_all, take_more}
use Rattle.std.proofs.lemmas.List.Elements.{All-weaker, Contains-append_cases, Contains-append_left, Contains-append_right, Contains-get_or, filter-append}
use Rattle.std.proofs.lemmas.List.Quantifiers.{all_pairs_push}
use Rattle.day_partitions.proofs.FilterLemmas.{filter_all}
use Rattle.segment_names.proofs.TextLemmas.{name_means, name_own}
use Rattle.segment_names.specs.Known.{Known, same_name}
use Rattle.trace_types.proofs.ComparingLemmas.{text_means, text_own}
use Rattle.trace_types.specs.Firsts.{firsts_of}
use Rattle.trace_types.specs.NameOrder.{name_cmp}
use Rattle.trace_types.specs.Segments.{SegmentName}
use Rattle.digest_facts.specs.Digests.{Digest, Rises, TellsApart}
use Rattle.digest_facts.specs.Tables.{Table, has}
use Rattle.digest_facts.proofs.MergeLemmas.{name_apart, one_rising, text_apart}
use Rattle.digest_facts.proofs.TableLemmas.{has_from, has_to}
use Rattle.digest_facts.proofs.UnionLemmas.{cons_cases, cons_here, nil_has}
use Rattle.digest_merging.specs.Merges.{IsTableOf, IsTaskOfSome}
use Rattle.digest_merging.proofs.MergeLemmas.{keys_of}
use Rattle.judged_books.specs.GivenDigests.{known_of}

-- ---- first sight
module _ {X : Type 0} (same : X → X → Bool) (means : (x y : X) → same x y ≡ true → x ≡ y) (itself : (x : X) → same x x ≡ true) where
  others_stay : (x : X) (xs : List X) → All (λ y. x ≢ y) xs → filter (λ y. not (same x y)) xs ≡ xs
  others_stay x xs others = filter_all (λ y. not (same x y)) xs (All-weaker (λ y. x ≢ y) (λ y. not (same x y) ≡ true) (λ y o. not_from_false (same x y) (differ y o)) xs others)
    where
      differ : (y : X) → x ≢ y → same x y ≡ false
      differ y other = ⊎_elim (λ (e : same x y ≡ true). absurd (other (means x y e))) (λ (e : same x y ≡ false). e) (cases_Bool (same x y))

  head_others : (x : X) (xs : List X) → AllPairs (λ x y. x ≢ y) (x ∷ xs) → All (λ y. x ≢ y) xs
  head_others x xs p = λ k d l. p 0 (suc k) d (omega arith) (omega (arith, l))

  tail_differ : (x : X) (xs : List X) → AllPairs (λ x y. x ≢ y) (x ∷ xs) → AllPairs (λ x y. x ≢ y) xs
  tail_differ x xs p = λ i j d l m. p (suc i) (suc j) d (omega (arith, l)) (omega (arith, m))

  -- where nothing stands twice, all are seen first
  pub firsts_same : (xs : List X) → AllPairs (λ x y. x ≢ y) xs → firsts_of same xs ≡ xs
  firsts_same [] p = refl
  firsts_same (x ∷ xs) p = ap (λ l. x ∷ filter (λ y. not (same x y)) l) (firsts_same xs (tail_differ x xs p)) ∙ ap (λ l. x ∷ l) (others_stay x xs (head_others x xs p))

  -- one that was seen is not seen first
  pub firsts_seen : (xs : List X) (x : X) → AllPairs (λ x y. x ≢ y) xs → Contains xs x → firsts_of same (xs ++ x ∷ []) ≡ xs
  firsts_seen [] x p c = absurd (nil_has x c)
  firsts_seen (y ∷ ys) x p c = ⊎_elim
      (λ (e : y ≡ x).
      let new : All (λ z. y ≢ z) ys = head_others y ys p in
      let whole : firsts_of same (ys ++ x ∷ []) ≡ ys ++ x ∷ [] = firsts_same (ys ++ x ∷ []) (all_pairs_push (λ a b. a ≢ b) ys x (tail_differ y ys p) (λ k d l f. new k d l (e ∙ sym f))) in
      let gone : filter (λ z. not (same y z)) (x ∷ []) ≡ [] = rw (not_from_true (same y x) (subst (λ (v : X). same y v ≡ true) e (itself y))) refl in
      ap (λ l. y ∷ filter (λ z. not (same y z)) l) whole
      ∙ ap (λ l. y ∷ l) (filter-append (λ z. not (same y z)) ys (x ∷ []))
      ∙ ap (λ l. y ∷ (filter (λ z. not (same y z)) ys ++ l)) gone
      ∙ ap (λ l. y ∷ l) (append-nil (filter (λ z. not (same y z)) ys) ∙ others_stay y ys new))
      (λ (d : Contains ys x).
      ap (λ l. y ∷ filter (λ z. not (same y z)) l) (firsts_seen ys x (tail_differ y ys p) d) ∙ ap (λ l. y ∷ l) (others_stay y ys (head_others y ys p)))
      (cons_cases y ys x c)

-- ---- names and tasks so far
abbrev pub D : Type 0
D = Digest SegmentName (List ℕ)

rising_differ : {X : Type 0} (cmp : X → X → Ordering) (o : TellsApart cmp) (xs : List X) → Rises cmp xs → AllPairs (λ x y. x ≢ y) xs
rising_differ {X} cmp o xs up = λ i j d lt within e.
    let less : cmp (get_or xs i d) (get_or xs j d) ≡ Less = up i j d lt within in
    let tied : cmp (get_or xs i d) (get_or xs j d) ≡ Equal = subst (λ (v : X). cmp (get_or xs i d) v ≡ Equal) e (tied_itself o.total (get_or xs i d)) in
    let q : Less ≡ Equal = sym less ∙ tied in
    cc

-- a lesser name has no greater task
task_first : (m n : SegmentName) → name_cmp m n ≡ Less → (slice_cmp nat_cmp m.0 n.0 ≡ Less) ⊎ (slice_cmp nat_cmp m.0 n.0 ≡ Equal)
task_first m n e = by (slice_cmp nat_cmp m.0 n.0) refl e
  where
    by : (c : Ordering) → slice_cmp nat_cmp m.0 n.0 ≡ c → ordering_then c (ordering_then (slice_cmp nat_cmp m.1 n.1) (slice_cmp nat_cmp m.2 n.2)) ≡ Less → (slice_cmp nat_cmp m.0 n.0 ≡ Less) ⊎ (slice_cmp nat_cmp m.0 n.0 ≡ Equal)
    by Less f h = inl f
    by Equal f h = inr f
    by Greater f h = cc

-- the catalogue has the first k names of a digest, and their tasks in order
pub record HasListed (given : D) (k : ℕ) (known : Known) : Type 0 where
  pub names : known.names ≡ take k given.names
  pub rises : Rises (slice_cmp nat_cmp) known.tasks
  pub same : (task : List ℕ) → Contains known.tasks task ↔ IsTaskOfSome (take k given.names) task

pub listed_none : (given : D) → HasListed given 0 (record { names = []; tasks = [] })
listed_none given = record {
  names = refl;
  rises = λ i j d lt within. absurd (omega arith);
  same = λ task. ((λ c. absurd (nil_has task c)), (λ n. absurd (nil_has n.0 n.1)));
}

module _ (given : D) (up : Rises name_cmp given.names) (k : ℕ) (known new : Known) (name : SegmentName) (within : k < length given.names) (at : name ≡ get_or given.names k name) (h : HasListed given k known)
    (names : new.names ≡ firsts_of same_name (known.names ++ name ∷ [])) (tasks : new.tasks ≡ firsts_of bytes_eq (known.tasks ++ name.0 ∷ [])) where
  one_more : take (k + 1) given.names ≡ take k given.names ++ name ∷ []
  one_more = take_more given.names k name within ∙ ap (λ (n : SegmentName). take k given.names ++ n ∷ []) (sym at)

  differ : AllPairs (λ x y. x ≢ y) (take k given.names ++ name ∷ [])
  differ = subst (λ (l : List SegmentName). AllPairs (λ x y. x ≢ y) l) one_more (λ i j d lt inside e.
      let few = length-take-le (k + 1) given.names (omega (arith, within)) in
      rising_differ name_cmp name_apart given.names up i j d lt (omega (arith, inside, few, within)) (sym (get_or-take (k + 1) given.names i d (omega (arith, lt, inside, few))) ∙ e ∙ get_or-take (k + 1) given.names j d (omega (arith, inside, few))))

  more_names : new.names ≡ take (k + 1) given.names
  more_names = names ∙ ap (λ (l : List SegmentName). firsts_of same_name (l ++ name ∷ [])) h.names ∙ firsts_same same_name name_means name_own (take k given.names ++ name ∷ []) differ ∙ sym one_more

  tasks_differ : AllPairs (λ x y. x ≢ y) known.tasks
  tasks_differ = rising_differ (slice_cmp nat_cmp) text_apart known.tasks h.rises

  -- a task so far is no greater than the next
  task_below : (task : List ℕ) → Contains known.tasks task → (slice_cmp nat_cmp task name.0 ≡ Less) ⊎ (task ≡ name.0)
  task_below task c =
      let n = (h.same task).0 c in
      let few = length-take-le k given.names (omega (arith, within)) in
      let i : ℕ = n.1.0 in
      let lt : i < k = omega (arith, n.1.1, few) in
      let here : get_or given.names i n.0 ≡ n.0 = sym (get_or-take k given.names i n.0 lt) ∙ n.1.2 in
      let less : name_cmp (get_or given.names i n.0) (get_or given.names k n.0) ≡ Less = up i k n.0 lt within in
      let less' : name_cmp n.0 name ≡ Less = subst (λ (v : SegmentName). name_cmp v name ≡ Less) here (subst (λ (v : SegmentName). name_cmp (get_or given.names i n.0) v ≡ Less) (get_or_default given.names k n.0 name within ∙ sym at) less) in
      ⊎_elim
      (λ (e : slice_cmp nat_cmp n.0.0 name.0 ≡ Less). inl (subst (λ (v : List ℕ). slice_cmp nat_cmp v name.0 ≡ Less) n.2 e))
      (λ (e : slice_cmp nat_cmp n.0.0 name.0 ≡ Equal). inr (sym n.2 ∙ text_apart.one n.0.0 name.0 e))
      (task_first n.0 name less')

  -- the tasks of one name more
  tasks_of_more : (task : List ℕ) → IsTaskOfSome (take (k + 1) given.names) task ↔ (IsTaskOfSome (take k given.names) task ⊎ (name.0 ≡ task))
  tasks_of_more task = (
    (λ n. ⊎_elim
        (λ (c : Contains (take k given.names) n.0). inl (n.0, c, n.2))
        (λ (c : Contains (name ∷ []) n.0). ⊎_elim (λ (e : name ≡ n.0). inr (ap (λ (v : SegmentName). v.0) e ∙ n.2)) (λ (d : Contains [] n.0). absurd (nil_has n.0 d)) (cons_cases name [] n.0 c))
        (Contains-append_cases (take k given.names) (name ∷ []) n.0 (subst (λ (l : List SegmentName). Contains l n.0) one_more n.1))),
    (λ s. ⊎_elim
        (λ (n : IsTaskOfSome (take k given.names) task). (n.0, subst (λ (l : List SegmentName). Contains l n.0) (sym one_more) (Contains-append_left (take k given.names) (name ∷ []) n.0 n.1), n.2))
        (λ (e : name.0 ≡ task). (name, subst (λ (l : List SegmentName). Contains l name) (sym one_more) (Contains-append_right (take k given.names) (name ∷ []) name (cons_here name [])), e))
        s),
  )

  pub listed_more : HasListed given (k + 1) new
  listed_more = ⊎_elim seen unseen (cases_Bool (has (slice_cmp nat_cmp) known.tasks name.0))
    where
      made : (l : List (List ℕ)) → new.tasks ≡ l → Rises (slice_cmp nat_cmp) l → ((task : List ℕ) → Contains l task ↔ (IsTaskOfSome (take k given.names) task ⊎ (name.0 ≡ task))) → HasListed given (k + 1) new
      made l e rise is = record {
        names = more_names;
        rises = subst (Rises (slice_cmp nat_cmp)) (sym e) rise;
        same = λ task. (
          (λ c. (tasks_of_more task).1 ((is task).0 (subst (λ (m : List (List ℕ)). Contains m task) e c))),
          (λ n. subst (λ (m : List (List ℕ)). Contains m task) (sym e) ((is task).1 ((tasks_of_more task).0 n))),
        );
      }

      seen : has (slice_cmp nat_cmp) known.tasks name.0 ≡ true → HasListed given (k + 1) new
      seen e =
          let there : Contains known.tasks name.0 = has_to (slice_cmp nat_cmp) text_apart known.tasks name.0 e in
          made known.tasks (tasks ∙ firsts_seen bytes_eq text_means text_own known.tasks name.0 tasks_differ there) h.rises (λ task. (
            (λ c. inl ((h.same task).0 c)),
            (λ s. ⊎_elim (λ (n : IsTaskOfSome (take k given.names) task). (h.same task).1 n) (λ (f : name.0 ≡ task). subst (λ (v : List ℕ). Contains known.tasks v) f there) s),
          ))

      unseen : has (slice_cmp nat_cmp) known.tasks name.0 ≡ false → HasListed given (k + 1) new
      unseen e =
          let not_there : Contains known.tasks name.0 → ⊥ = λ c. true≢false (sym (has_from (slice_cmp nat_cmp) text_apart known.tasks name.0 c) ∙ e) in
          let rise : Rises (slice_cmp nat_cmp) (known.tasks ++ name.0 ∷ []) = all_pairs_push (λ a b. slice_cmp nat_cmp a b ≡ Less) known.tasks name.0 h.rises (λ j d lt.
          let c : Contains known.tasks (get_or known.tasks j d) = Contains-get_or known.tasks j d lt in
          ⊎_elim (λ (l : slice_cmp nat_cmp (get_or known.tasks j d) name.0 ≡ Less). l) (λ (q : get_or known.tasks j d ≡ name.0). absurd (not_there (subst (λ (v : List ℕ). Contains known.tasks v) q c))) (task_below (get_or known.tasks j d) c)) in
          made (known.tasks ++ name.0 ∷ []) (tasks ∙ firsts_same bytes_eq text_means text_own (known.tasks ++ name.0 ∷ []) (rising_differ (slice_cmp nat_cmp) text_apart (known.tasks ++ name.0 ∷ []) rise)) rise (λ task. (
            (λ c. ⊎_elim (λ (l : Contains known.tasks task). inl ((h.same task).0 l))
                (λ (r : Contains (name.0 ∷ []) task). ⊎_elim (λ (q : name.0 ≡ task). inr q) (λ (d : Contains [] task). absurd (nil_has task d)) (cons_cases name.0 [] task r))
                (Contains-append_cases known.tasks (name.0 ∷ []) task c)),
            (λ s. ⊎_elim (λ (n : IsTaskOfSome (take k given.names) task). Contains-append_left known.tasks (name.0 ∷ []) task ((h.same task).1 n))
                (λ (q : name.0 ≡ task). Contains-append_right known.tasks (name.0 ∷ []) task (subst (λ (v : List ℕ). Contains (name.0 ∷ []) v) q (cons_here name.0 [])))
                s),
          ))

-- all of them
pub listed_all : (given : D) (known : Known) → Rises (slice_cmp nat_cmp) given.tasks → ((task : List ℕ) → Contains given.tasks task ↔ IsTaskOfSome given.names task) → HasListed given (length given.names) known → known ≡ known_of given
listed_all given known up tasks h =
    let whole : take (length given.names) given.names ≡ given.names = take_all (length given.names) given.names (omega arith) in
    let names : known.names ≡ given.names = h.names ∙ whole in
    let same : known.tasks ≡ given.tasks = one_rising (slice_cmp nat_cmp) text_apart known.tasks given.tasks h.rises up (λ task. (
      (λ c. (tasks task).1 (subst (λ (l : List SegmentName). IsTaskOfSome l task) whole ((h.same task).0 c))),
      (λ c. (h.same task).1 (subst (λ (l : List SegmentName). IsTaskOfSome l task) (sym whole) ((tasks task).0 c))),
    )) in
    λ i. record { names = names i; tasks = same i }

-- ---- the rows of a table
pub names_of_table : (given : D) (u : Table SegmentName (List ℕ)) → IsTableOf given u → map (λ (r : SegmentName × List ℕ). r.0) u.names ≡ given.names
names_of_table given u h = ap (λ (w : Table SegmentName (List ℕ)). map (λ (r : SegmentName × List ℕ). r.0) w.names) h.table ∙ keys_of _ [] given.names

pub rows_of_table : (given : D) (u : Table SegmentName (List ℕ)) → IsTableOf given u → length u.names ≡ length given.names
rows_of_table given u h = sym (length-map u.names (λ (r : SegmentName × List ℕ). r.0)) ∙ ap (λ (l : List SegmentName). length l) (names_of_table given u h)

pub name_of_row : (given : D) (u : Table SegmentName (List ℕ)) → IsTableOf given u → (k : ℕ) (row : SegmentName × List ℕ) → k < length u.names → row ≡ get_or u.names k row → row.0 ≡ get_or given.names k row.0
name_of_row given u h k row within at =
    ap (λ (r : SegmentName × List ℕ). r.0) at
    ∙ sym (get_or-map (λ (r : SegmentName × List ℕ). r.0) u.names k row row.0 within)
    ∙ ap (λ (l : List SegmentName). get_or l k row.0) (names_of_table given u h)
