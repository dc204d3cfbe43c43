-- What of a task is before an event, where events stand by task, time and index.
use Rattle.std.proofs.Common.{◌≡◌, ◌⊎◌, inl, inr, ℕ, ◌+◌, ◌<◌, ◌≤◌, ◌==◌, ◌&&◌, ◌||◌, true, false, cond, List, ◌∷◌, ◌++◌, length, take, drop, get_or, refl, sym, ap, subst, ◌∙◌, arith, ⊎_elim}
use Rattle.std.specs.Prelude.{nat_lt}
use Rattle.std.specs.Cmp.Lexicographic.{slice_cmp}
use Rattle.std.specs.List.{AllByRecursion}
use Rattle.std.specs.Ordering.{is_eq, is_lt, nat_cmp, ordering_reverse, ordering_then}
use Rattle.std.specs.Str.{bytes_eq}
use Rattle.std.specs.declared.cmp.Ordering.{Ordering}
use Rattle.std.specs.declared.cmp.Ordering.TheVariants.{Less, Equal, Greater}
use Rattle.std.proofs.lemmas.Bool.{and_from, and_left, and_parts, cases_Bool, cases_lt, cases_order, eq-eqb, eqb-true, false_from_ne_true, false≢true, le-ltb, lt-ltb, ltb-true, or_cases, or_left, or_right}
use Rattle.std.proofs.lemmas.Cmp.{nat_list_cmp_total, tied_itself}
use Rattle.std.proofs.lemmas.List.{get_or-drop, get_or-take, length-drop, length-take, drop_more, take-append-drop}
use Rattle.std.proofs.lemmas.List.Elements.{All-from_get_or, recursion_from_All}
use Rattle.std.proofs.lemmas.List.Folds.{list_any_at}
use Rattle.std.proofs.lemmas.Map.Text.{is_eq-slice_cmp}
use Rattle.std.proofs.lemmas.Slice.Eq.{bytes_eq-Decides}
use Rattle.task_pieces.specs.TaskEvents.{TaskEvent, are_of_one_task, is_before, is_earlier}
use Rattle.task_pieces.specs.Pieces.{piece_of}
use Rattle.task_pieces.specs.inner.Orders.{IsInOrder, IsUpTo, OneTask}
use Rattle.task_pieces.proofs.StepLemmas.{bit, first_piece, next_piece}

-- ---- two events of one task

pub one_task : (a b : TaskEvent) → are_of_one_task a b ≡ true → OneTask a b
one_task a b h =
    let p = and_parts (a.batch == b.batch) (bytes_eq a.request b.request && bytes_eq a.task b.task) h in
    let q = and_parts (bytes_eq a.request b.request) (bytes_eq a.task b.task) p.1 in
    record { batch = eqb-true a.batch b.batch p.0; request = (bytes_eq-Decides a.request b.request).0 q.0; task = (bytes_eq-Decides a.task b.task).0 q.1 }

pub are_one : (a b : TaskEvent) → OneTask a b → are_of_one_task a b ≡ true
are_one a b h =
    and_from (a.batch == b.batch) (bytes_eq a.request b.request && bytes_eq a.task b.task) (eq-eqb a.batch b.batch h.batch)
    (and_from (bytes_eq a.request b.request) (bytes_eq a.task b.task) ((bytes_eq-Decides a.request b.request).1 h.request) ((bytes_eq-Decides a.task b.task).1 h.task))

back : {a b : TaskEvent} → OneTask a b → OneTask b a
back h = record { batch = sym h.batch; request = sym h.request; task = sym h.task }

through : {a b c : TaskEvent} → OneTask a b → OneTask b c → OneTask a c
through h k = record { batch = h.batch ∙ k.batch; request = h.request ∙ k.request; task = h.task ∙ k.task }

-- ---- the order of keys

first_part : (o p : Ordering) → is_lt (ordering_then o p) ≡ false → is_lt o ≡ false
first_part Less p h = h
first_part Equal p h = refl
first_part Greater p h = refl

second_part : (o p : Ordering) → o ≡ Equal → is_lt (ordering_then o p) ≡ false → is_lt p ≡ false
second_part o p e h = subst (λ (q : Ordering). is_lt (ordering_then q p) ≡ false) e h

number_upto : (x y : ℕ) → is_lt (nat_cmp y x) ≡ false → x ≤ y
number_upto x y h = by (cases_lt y x)
  where
    by : (y < x) ⊎ (x ≤ y) → x ≤ y
    by (inl l) = absurd (false≢true (sym h ∙ ap (λ b. is_lt (cond b Less (cond (y == x) Equal Greater))) (lt-ltb y x l)))
    by (inr g) = g

number_tied : (x y : ℕ) → x ≡ y → nat_cmp y x ≡ Equal
number_tied x y e = ap (λ b. cond b Less (cond (y == x) Equal Greater)) (le-ltb y x (omega (arith, e))) ∙ ap (λ b. cond b Equal Greater) (eq-eqb y x (sym e))

text_tied : (xs ys : List ℕ) → xs ≡ ys → slice_cmp nat_cmp ys xs ≡ Equal
text_tied xs ys e = subst (λ (zs : List ℕ). slice_cmp nat_cmp zs xs ≡ Equal) e (tied_itself nat_list_cmp_total xs)

-- a text between two that are one is that one
text_between : (xs ys : List ℕ) → is_lt (slice_cmp nat_cmp ys xs) ≡ false → is_lt (slice_cmp nat_cmp xs ys) ≡ false → xs ≡ ys
text_between xs ys h k = (bytes_eq-Decides xs ys).0 (sym (is_eq-slice_cmp xs ys) ∙ by (slice_cmp nat_cmp xs ys) (slice_cmp nat_cmp ys xs) refl refl)
  where
    by : (o p : Ordering) → slice_cmp nat_cmp xs ys ≡ o → slice_cmp nat_cmp ys xs ≡ p → is_eq (slice_cmp nat_cmp xs ys) ≡ true
    by Less p e f = absurd (false≢true (sym k ∙ ap is_lt e))
    by Equal p e f = ap is_eq e
    by Greater p e f =
        let flipped : slice_cmp nat_cmp ys xs ≡ Less = nat_list_cmp_total.antisymm ys xs ∙ ap ordering_reverse e in
        absurd (false≢true (sym h ∙ ap is_lt flipped))

-- by task, time and index, and then by anything
abbrev pub key_cmp : Ordering → TaskEvent → TaskEvent → Ordering
key_cmp rest a b =
    ordering_then (nat_cmp a.batch b.batch) (ordering_then (slice_cmp nat_cmp a.request b.request) (ordering_then (slice_cmp nat_cmp a.task b.task)
    (ordering_then (nat_cmp a.time b.time) (ordering_then (nat_cmp a.index b.index) rest))))

pub upto_from_cmp : (rest : Ordering) (x y : TaskEvent) → is_lt (key_cmp rest y x) ≡ false → IsUpTo x y
upto_from_cmp rest x y h =
    let i = ordering_then (nat_cmp y.index x.index) rest in
    let t = ordering_then (nat_cmp y.time x.time) i in
    let k = ordering_then (slice_cmp nat_cmp y.task x.task) t in
    let r = ordering_then (slice_cmp nat_cmp y.request x.request) k in
    let at_request : (x.batch ≡ y.batch) → is_lt r ≡ false = λ e. second_part (nat_cmp y.batch x.batch) r (number_tied x.batch y.batch e) h in
    let at_task : (x.batch ≡ y.batch) → x.request ≡ y.request → is_lt k ≡ false = λ e f. second_part (slice_cmp nat_cmp y.request x.request) k (text_tied x.request y.request f) (at_request e) in
    let at_time : OneTask x y → is_lt t ≡ false = λ o. second_part (slice_cmp nat_cmp y.task x.task) t (text_tied x.task y.task o.task) (at_task o.batch o.request) in
    let at_index : OneTask x y → x.time ≡ y.time → is_lt i ≡ false = λ o e. second_part (nat_cmp y.time x.time) i (number_tied x.time y.time e) (at_time o) in
    record {
      batch = number_upto x.batch y.batch (first_part (nat_cmp y.batch x.batch) r h);
      request = λ e. first_part (slice_cmp nat_cmp y.request x.request) k (at_request e);
      task = λ e f. first_part (slice_cmp nat_cmp y.task x.task) t (at_task e f);
      time = λ o. number_upto x.time y.time (first_part (nat_cmp y.time x.time) i (at_time o));
      index = λ o e. number_upto x.index y.index (first_part (nat_cmp y.index x.index) rest (at_index o e));
    }

-- an event between two of one task is of that task
one_between : (x a b : TaskEvent) → IsUpTo x a → IsUpTo a b → OneTask x b → OneTask a b
one_between x a b h k o =
    let batch : a.batch ≡ b.batch = omega (arith, h.batch, k.batch, o.batch) in
    let first : x.batch ≡ a.batch = omega (arith, h.batch, k.batch, o.batch) in
    let request : a.request ≡ b.request =
    text_between a.request b.request (k.request batch) (subst (λ (r : List ℕ). is_lt (slice_cmp nat_cmp a.request r) ≡ false) o.request (h.request first)) in
    let task : a.task ≡ b.task =
    text_between a.task b.task (k.task batch request) (subst (λ (r : List ℕ). is_lt (slice_cmp nat_cmp a.task r) ≡ false) o.task (h.task first (o.request ∙ sym request))) in
    record { batch = batch; request = request; task = task }

earlier : (x a : TaskEvent) → IsUpTo x a → OneTask x a → (x.index ≡ a.index → ⊥) → is_earlier x a ≡ true
earlier x a h o differ = by (cases_order x.time a.time)
  where
    by : (x.time ≡ a.time) ⊎ ((x.time < a.time) ⊎ (a.time < x.time)) → is_earlier x a ≡ true
    by (inl e) =
        let i = h.index o e in
        let l : x.index < a.index = by_index (cases_order x.index a.index) i in
        or_right (nat_lt x.time a.time) (x.time == a.time && nat_lt x.index a.index) (and_from (x.time == a.time) (nat_lt x.index a.index) (eq-eqb x.time a.time e) (lt-ltb x.index a.index l))
      where
        by_index : (x.index ≡ a.index) ⊎ ((x.index < a.index) ⊎ (a.index < x.index)) → x.index ≤ a.index → x.index < a.index
        by_index (inl e) i = absurd (differ e)
        by_index (inr (inl l)) i = l
        by_index (inr (inr g)) i = omega arith
    by (inr (inl l)) = or_left (nat_lt x.time a.time) (x.time == a.time && nat_lt x.index a.index) (lt-ltb x.time a.time l)
    by (inr (inr g)) = let t = h.time o in absurd (omega arith)

before : (x a : TaskEvent) → IsUpTo x a → OneTask x a → (x.index ≡ a.index → ⊥) → is_before x a ≡ true
before x a h o differ = and_from (are_of_one_task x a) (is_earlier x a) (are_one x a o) (earlier x a h o differ)

not_before : (x b : TaskEvent) → IsUpTo b x → is_before x b ≡ false
not_before x b h = false_from_ne_true (is_before x b) (λ e.
    let p = and_parts (are_of_one_task x b) (is_earlier x b) e in
    let o = back (one_task x b p.0) in
    let t = h.time o in
    ⊎_elim (λ l. let less = ltb-true x.time b.time l in absurd (omega arith))
    (λ r.
    let q = and_parts (x.time == b.time) (nat_lt x.index b.index) r in
    let same = eqb-true x.time b.time q.0 in
    let i = h.index o (sym same) in
    let less = ltb-true x.index b.index q.1 in
    absurd (omega arith)) (or_cases (nat_lt x.time b.time) (x.time == b.time && nat_lt x.index b.index) p.1))

not_of_other : (x b : TaskEvent) → (OneTask x b → ⊥) → is_before x b ≡ false
not_of_other x b apart_of = and_left (are_of_one_task x b) (is_earlier x b) (false_from_ne_true (are_of_one_task x b) (λ e. apart_of (one_task x b e)))

-- no two events are each before the other
pub never_both : (a x : TaskEvent) → (is_before a x && is_before x a) ≡ false
never_both a x = false_from_ne_true (is_before a x && is_before x a) (λ e.
    let p = and_parts (is_before a x) (is_before x a) e in
    let q = and_parts (are_of_one_task a x) (is_earlier a x) p.0 in
    let r = and_parts (are_of_one_task x a) (is_earlier x a) p.1 in
    both (or_cases (nat_lt a.time x.time) (a.time == x.time && nat_lt a.index x.index) q.1) (or_cases (nat_lt x.time a.time) (x.time == a.time && nat_lt x.index a.index) r.1))
  where
    later : (nat_lt a.time x.time ≡ true) → (x.time ≤ a.time) → ⊥
    later l t = let less = ltb-true a.time x.time l in omega arith

    both : (nat_lt a.time x.time ≡ true) ⊎ ((a.time == x.time && nat_lt a.index x.index) ≡ true) → (nat_lt x.time a.time ≡ true) ⊎ ((x.time == a.time && nat_lt x.index a.index) ≡ true) → ⊥
    both (inl l) (inl m) = let less = ltb-true x.time a.time m in later l (omega arith)
    both (inl l) (inr m) = let e = eqb-true x.time a.time (and_parts (x.time == a.time) (nat_lt x.index a.index) m).0 in later l (omega arith)
    both (inr l) (inl m) =
        let e = eqb-true a.time x.time (and_parts (a.time == x.time) (nat_lt a.index x.index) l).0 in
        let less = ltb-true x.time a.time m in
        omega arith
    both (inr l) (inr m) =
        let i = ltb-true a.index x.index (and_parts (a.time == x.time) (nat_lt a.index x.index) l).1 in
        let j = ltb-true x.index a.index (and_parts (x.time == a.time) (nat_lt x.index a.index) m).1 in
        omega arith

-- ---- events in that order

module _ (xs : List TaskEvent) (h : IsInOrder xs) (d : TaskEvent) where
  abbrev at : ℕ → TaskEvent
  at i = get_or xs i d

  only : (k : ℕ) → k < length xs → AllByRecursion (λ (x : TaskEvent). (x.index == (at k).index) ≡ true → x ≡ at k) xs
  only k lt = recursion_from_All (λ (x : TaskEvent). (x.index == (at k).index) ≡ true → x ≡ at k) xs
      (All-from_get_or (λ (x : TaskEvent). (x.index == (at k).index) ≡ true → x ≡ at k) xs d (λ i within e. ap at (h.apart i k d within lt e)))

  differ : (i k : ℕ) → i < length xs → k < length xs → (i ≡ k → ⊥) → ((at i).index == (at k).index) ≡ false
  differ i k m n apart_of = false_from_ne_true ((at i).index == (at k).index) (λ e. apart_of (h.apart i k d m n e))

  unlike : (i k : ℕ) → i < length xs → k < length xs → (i ≡ k → ⊥) → (at i).index ≡ (at k).index → ⊥
  unlike i k m n apart_of e = apart_of (h.apart i k d m n (eq-eqb (at i).index (at k).index e))

  pub first_of_all : 0 < length xs → piece_of xs (at 0) ≡ 1
  first_of_all some = first_piece xs (at 0) (only 0 some)
      (recursion_from_All (λ x. is_before x (at 0) ≡ false) xs (All-from_get_or (λ x. is_before x (at 0) ≡ false) xs d (λ i within. not_before (at i) (at 0) (h.upto 0 i d (omega arith) within))))

  module _ (k : ℕ) (lt : k + 1 < length xs) where
    step : IsUpTo (at k) (at (k + 1))
    step = h.upto k (k + 1) d (omega arith) lt

    other_none : are_of_one_task (at k) (at (k + 1)) ≡ false → (i : ℕ) → i < length xs → is_before (at i) (at (k + 1)) ≡ false
    other_none apart_of i within = ⊎_elim
        (λ (low : i < k + 1). not_of_other (at i) (at (k + 1)) (λ o.
        false≢true (sym apart_of ∙ are_one (at k) (at (k + 1)) (one_between (at i) (at k) (at (k + 1)) (h.upto i k d (omega arith) (omega arith)) step o))))
        (λ (high : k + 1 ≤ i). not_before (at i) (at (k + 1)) (h.upto (k + 1) i d high within)) (cases_lt i (k + 1))

    pub first_of_task : are_of_one_task (at k) (at (k + 1)) ≡ false → piece_of xs (at (k + 1)) ≡ 1
    first_of_task apart_of = first_piece xs (at (k + 1)) (only (k + 1) lt)
        (recursion_from_All (λ x. is_before x (at (k + 1)) ≡ false) xs (All-from_get_or (λ x. is_before x (at (k + 1)) ≡ false) xs d (other_none apart_of)))

    module _ (yes : are_of_one_task (at k) (at (k + 1)) ≡ true) where
      here : OneTask (at k) (at (k + 1))
      here = one_task (at k) (at (k + 1)) yes

      before_here : is_before (at k) (at (k + 1)) ≡ true
      before_here = before (at k) (at (k + 1)) step here (unlike k (k + 1) (omega arith) lt (λ e. omega arith))

      abbrev IsSame : TaskEvent → Type 0
      IsSame x = is_before x (at (k + 1)) ≡ (x.index == (at k).index || is_before x (at k))

      low_same : (i : ℕ) → i < k → IsSame (at i)
      low_same i low =
          let none : ((at i).index == (at k).index) ≡ false = differ i k (omega arith) (omega arith) (λ e. omega arith) in
          let upto = h.upto i k d (omega arith) (omega arith) in
          let next = h.upto i (k + 1) d (omega arith) lt in
          ⊎_elim
          (λ (t : are_of_one_task (at i) (at k) ≡ true).
          let o = one_task (at i) (at k) t in
          before (at i) (at (k + 1)) next (through o here) (unlike i (k + 1) (omega arith) lt (λ e. omega arith))
          ∙ sym (or_right ((at i).index == (at k).index) (is_before (at i) (at k)) (before (at i) (at k) upto o (unlike i k (omega arith) (omega arith) (λ e. omega arith)))))
          (λ (f : are_of_one_task (at i) (at k) ≡ false).
          let apart_of : OneTask (at i) (at k) → ⊥ = λ o. false≢true (sym f ∙ are_one (at i) (at k) o) in
          not_of_other (at i) (at (k + 1)) (λ o. apart_of (through o (back here))) ∙ sym (λ j. none j || not_of_other (at i) (at k) apart_of j))
          (cases_Bool (are_of_one_task (at i) (at k)))

      high_same : (i : ℕ) → k < i → i < length xs → IsSame (at i)
      high_same i high within =
          let none : ((at i).index == (at k).index) ≡ false = differ i k within (omega arith) (λ e. omega arith) in
          let apart_of = not_before (at i) (at k) (h.upto k i d (omega arith) within) in
          not_before (at i) (at (k + 1)) (h.upto (k + 1) i d (omega arith) within) ∙ sym (λ j. none j || apart_of j)

      all_same : (i : ℕ) → i < length xs → IsSame (at i)
      all_same i within = by (cases_order i k)
        where
          by : (i ≡ k) ⊎ ((i < k) ⊎ (k < i)) → IsSame (at i)
          by (inl e) = subst (λ (j : ℕ). IsSame (at j)) (sym e) (before_here ∙ sym (or_left ((at k).index == (at k).index) (is_before (at k) (at k)) (eq-eqb (at k).index (at k).index refl)))
          by (inr (inl low)) = low_same i low
          by (inr (inr high)) = high_same i high within

      pub next_of_task : piece_of xs (at (k + 1)) ≡ piece_of xs (at k) + bit ((at (k + 1)).receives && (at k).sends)
      next_of_task =
          let b = at (k + 1) in
          let front = take (k + 1) xs in
          let rest = drop (k + 2) xs in
          next_piece xs b (only (k + 1) lt) (at k) (only k (omega arith))
          (recursion_from_All IsSame xs (All-from_get_or IsSame xs d all_same)) front rest split
          (λ p there. list_any_at p xs k d (omega arith) there) before_here (not_before (at k) (at k) (h.upto k k d (omega arith) (omega arith))) (not_before b (at k) step)
          (differ (k + 1) k lt (omega arith) (λ e. omega arith)) (never_both (at k))
          (recursion_from_All (λ (x : TaskEvent). (x.index == b.index) ≡ false) front (All-from_get_or (λ (x : TaskEvent). (x.index == b.index) ≡ false) front d (λ i within.
          let short = length-take (k + 1) xs in
          subst (λ (x : TaskEvent). (x.index == b.index) ≡ false) (sym (get_or-take (k + 1) xs i d (omega arith))) (differ i (k + 1) (omega arith) lt (λ e. omega arith)))))
          (recursion_from_All (λ (x : TaskEvent). (x.index == b.index) ≡ false) rest (All-from_get_or (λ (x : TaskEvent). (x.index == b.index) ≡ false) rest d (λ i within.
          let short = length-drop (k + 2) xs in
          subst (λ (x : TaskEvent). (x.index == b.index) ≡ false) (sym (get_or-drop (k + 2) xs i d)) (differ (k + 2 + i) (k + 1) (omega arith) lt (λ e. omega arith)))))
        where
          split : xs ≡ take (k + 1) xs ++ at (k + 1) ∷ drop (k + 2) xs
          split = let two : k + 1 + 1 ≡ k + 2 = omega arith in
              sym (take-append-drop (k + 1) xs) ∙ ap (λ ys. take (k + 1) xs ++ ys) (drop_more xs (k + 1) d lt ∙ ap (λ n. at (k + 1) ∷ drop n xs) two)
