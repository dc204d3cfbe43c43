-- Of lines without waits no event ends a wait, and all else stays.
use Rattle.std.proofs.Common.{◌≡◌, ◌⊎◌, inl, inr, ℕ, zero, suc, ◌+◌, ◌^◌, ◌<◌, ◌≤◌, ◌==◌, ◌&&◌, ◌||◌, not, filter, List, [], ◌∷◌, ◌++◌, Bool, true, false, length, get_or, map, refl, sym, ap, subst, ◌∙◌, arith, append_assoc}
use Rattle.std.specs.Prelude.{nat_lt}
use Rattle.std.specs.List.{All, count_by, list_any}
use Rattle.std.specs.Str.{bytes_eq}
use Rattle.std.proofs.lemmas.Bool.{and_from, and_parts, eq-eqb, eqb-true, false_from_ne_true, false≢true, lt-ltb, ltb-true, or_cases, or_left, or_right}
use Rattle.std.proofs.lemmas.List.{get_or-map, length-append, length-map}
use Rattle.std.proofs.lemmas.List.Elements.{All-from_get_or, All-map}
use Rattle.std.proofs.lemmas.List.Folds.{list_any_at}
use Rattle.std.proofs.lemmas.List.Sums.{count_by-le-length, length-filter, sum_by-cons}
use Rattle.std.proofs.lemmas.Slice.Eq.{bytes_eq-Decides}
use Rattle.trace_types.specs.Firsts.{firsts_of}
use Rattle.event_lines.specs.declared.line.Line.{Line}
use Rattle.event_lines.specs.declared.line.Line.TheVariants.{Control, Event}
use Rattle.event_rewrite.specs.TaskLines.{batch_after, task_event, task_events, task_events_from}
use Rattle.event_rewrite.specs.WithoutWaits.{with_tasks_from, without_waits}
use Rattle.event_rewrite.proofs.WalkLemmas.{count_within, index_is, tasks_count}
use Rattle.task_pieces.specs.PieceNames.{piece_name}
use Rattle.task_pieces.specs.Pieces.{ends_wait, is_right_before, piece_of}
use Rattle.task_pieces.specs.TaskEvents.{TaskEvent, are_of_one_task, is_before, is_earlier}
use Rattle.task_pieces.specs.TaskNames.{tasks_of}
use Rattle.task_pieces.specs.inner.Orders.{OneTask}
use Rattle.task_pieces.proofs.OrderLemmas.{are_one, never_both, one_task}
use Rattle.task_pieces.proofs.StepLemmas.{bit}
use Rattle.trace_types.proofs.ShortLemmas.{any-filter}
use Rattle.import_laws.specs.Laws.{without_task}
use Rattle.import_laws.proofs.NameLaws.{one_name}

-- ---- lists

-- an element that passes, by its place
find : {X : Type 0} (p : X → Bool) (xs : List X) (d : X) → list_any p xs ≡ true → (i : ℕ) × (i < length xs) × (p (get_or xs i d) ≡ true)
find p [] d h = absurd (false≢true h)
find p (x ∷ xs) d h = by (find p xs d) (or_cases (p x) (list_any p xs) h)
  where
    by : (list_any p xs ≡ true → (i : ℕ) × (i < length xs) × (p (get_or xs i d) ≡ true)) → (p x ≡ true) ⊎ (list_any p xs ≡ true) → (i : ℕ) × (i < length (x ∷ xs)) × (p (get_or (x ∷ xs) i d) ≡ true)
    by later (inl e) = (0, omega arith, e)
    by later (inr e) = let r = later e in (suc r.0, omega (arith, r.1), r.2)

module _ {X : Type 0} (p q : X → Bool) (d : X) where
  bit_le : (x : X) → (p x ≡ true → q x ≡ true) → bit (p x) ≤ bit (q x)
  bit_le x h = by (p x) refl
    where
      by : (b : Bool) → p x ≡ b → bit (p x) ≤ bit (q x)
      by true e = let one : bit (p x) ≡ 1 = ap bit e in let two : bit (q x) ≡ 1 = ap bit (h e) in omega (arith, one, two)
      by false e = let none : bit (p x) ≡ 0 = ap bit e in omega (arith, none)

  count_le : (xs : List X) → ((i : ℕ) → i < length xs → p (get_or xs i d) ≡ true → q (get_or xs i d) ≡ true) → count_by p xs ≤ count_by q xs
  count_le [] h = omega arith
  count_le (x ∷ xs) h =
      omega (arith, sum_by-cons (λ y. bit (p y)) x xs, sum_by-cons (λ y. bit (q y)) x xs, bit_le x (h 0 (omega arith)), count_le xs (λ i l. h (suc i) (omega (arith, l))))

  count_lt : (xs : List X) (k : ℕ) → k < length xs → ((i : ℕ) → i < length xs → p (get_or xs i d) ≡ true → q (get_or xs i d) ≡ true) → p (get_or xs k d) ≡ false → q (get_or xs k d) ≡ true → count_by p xs < count_by q xs
  count_lt [] k lt h e f = absurd (omega (arith, lt))
  count_lt (x ∷ xs) zero lt h e f =
      let none : bit (p x) ≡ 0 = ap bit e in
      let one : bit (q x) ≡ 1 = ap bit f in
      omega (arith, sum_by-cons (λ y. bit (p y)) x xs, sum_by-cons (λ y. bit (q y)) x xs, none, one, count_le xs (λ i l. h (suc i) (omega (arith, l))))
  count_lt (x ∷ xs) (suc k) lt h e f =
      omega (arith, sum_by-cons (λ y. bit (p y)) x xs, sum_by-cons (λ y. bit (q y)) x xs, bit_le x (h 0 (omega arith)), count_lt xs k (omega (arith, lt)) (λ i l. h (suc i) (omega (arith, l))) e f)

get_here : (front : List (List ℕ)) (x : List ℕ) (rest : List (List ℕ)) → get_or (front ++ x ∷ rest) (length front) [] ≡ x
get_here [] x rest = refl
get_here (y ∷ front) x rest = get_here front x rest

-- ---- tasks by first sight

any_firsts : (text : List ℕ) (xs : List (List ℕ)) → list_any (bytes_eq text) xs ≡ true → list_any (bytes_eq text) (firsts_of bytes_eq xs) ≡ true
any_firsts text [] h = h
any_firsts text (x ∷ xs) h = by (any_firsts text xs) (bytes_eq text x) refl
  where
    by : (list_any (bytes_eq text) xs ≡ true → list_any (bytes_eq text) (firsts_of bytes_eq xs) ≡ true) → (b : Bool) → bytes_eq text x ≡ b → list_any (bytes_eq text) (firsts_of bytes_eq (x ∷ xs)) ≡ true
    by later true e = or_left (bytes_eq text x) (list_any (bytes_eq text) (filter (λ y. not (bytes_eq x y)) (firsts_of bytes_eq xs))) e
    by later false e =
        let rest : list_any (bytes_eq text) xs ≡ true = ap (λ b. b || list_any (bytes_eq text) xs) (sym e) ∙ h in
        let other : bytes_eq x text ≡ false = false_from_ne_true (bytes_eq x text) (λ f. false≢true (sym e ∙ (bytes_eq-Decides text x).1 (sym ((bytes_eq-Decides x text).0 f)))) in
        or_right (bytes_eq text x) (list_any (bytes_eq text) (filter (λ y. not (bytes_eq x y)) (firsts_of bytes_eq xs)))
        (any-filter (bytes_eq text) (λ y. not (bytes_eq x y)) (λ z f. ap not (ap (bytes_eq x) (sym ((bytes_eq-Decides text z).0 f)) ∙ other)) (firsts_of bytes_eq xs)
        ∙ later rest)

pub few_firsts : (xs : List (List ℕ)) → length (firsts_of bytes_eq xs) ≤ length xs
few_firsts [] = omega arith
few_firsts (x ∷ xs) =
    omega (arith, few_firsts xs, length-filter (λ y. not (bytes_eq x y)) (firsts_of bytes_eq xs), count_by-le-length (λ y. not (bytes_eq x y)) (firsts_of bytes_eq xs))

-- ---- the order of a task's events

later_yet : (a b c : TaskEvent) → is_earlier a b ≡ true → is_earlier b c ≡ true → is_earlier a c ≡ true
later_yet a b c h k = by (or_cases (nat_lt a.time b.time) (a.time == b.time && nat_lt a.index b.index) h) (or_cases (nat_lt b.time c.time) (b.time == c.time && nat_lt b.index c.index) k)
  where
    sooner : a.time < c.time → is_earlier a c ≡ true
    sooner l = or_left (nat_lt a.time c.time) (a.time == c.time && nat_lt a.index c.index) (lt-ltb a.time c.time l)

    by : (nat_lt a.time b.time ≡ true) ⊎ ((a.time == b.time && nat_lt a.index b.index) ≡ true) → (nat_lt b.time c.time ≡ true) ⊎ ((b.time == c.time && nat_lt b.index c.index) ≡ true) → is_earlier a c ≡ true
    by (inl l) (inl m) = sooner (omega (arith, ltb-true a.time b.time l, ltb-true b.time c.time m))
    by (inl l) (inr m) = sooner (omega (arith, ltb-true a.time b.time l, eqb-true b.time c.time (and_parts (b.time == c.time) (nat_lt b.index c.index) m).0))
    by (inr l) (inl m) = sooner (omega (arith, eqb-true a.time b.time (and_parts (a.time == b.time) (nat_lt a.index b.index) l).0, ltb-true b.time c.time m))
    by (inr l) (inr m) =
        let p = and_parts (a.time == b.time) (nat_lt a.index b.index) l in
        let q = and_parts (b.time == c.time) (nat_lt b.index c.index) m in
        let time : a.time ≡ c.time = eqb-true a.time b.time p.0 ∙ eqb-true b.time c.time q.0 in
        let index : a.index < c.index = omega (arith, ltb-true a.index b.index p.1, ltb-true b.index c.index q.1) in
        or_right (nat_lt a.time c.time) (a.time == c.time && nat_lt a.index c.index) (and_from (a.time == c.time) (nat_lt a.index c.index) (eq-eqb a.time c.time time) (lt-ltb a.index c.index index))

before_yet : (a b c : TaskEvent) → is_before a b ≡ true → is_before b c ≡ true → is_before a c ≡ true
before_yet a b c h k =
    let p = and_parts (are_of_one_task a b) (is_earlier a b) h in
    let q = and_parts (are_of_one_task b c) (is_earlier b c) k in
    let o = one_task a b p.0 in
    let r = one_task b c q.0 in
    and_from (are_of_one_task a c) (is_earlier a c) (are_one a c (record { batch = o.batch ∙ r.batch; request = o.request ∙ r.request; task = o.task ∙ r.task })) (later_yet a b c p.1 q.1)

-- ---- events under the names of their pieces

module _ (es : List TaskEvent) where
  abbrev pub name_of : TaskEvent → List ℕ
  name_of e = piece_name (tasks_of es) e.task (piece_of es e)

  abbrev pub named : TaskEvent → TaskEvent
  named e = record e { task = name_of e }

  module _ (few : length es < 2 ^ 61) (d : TaskEvent) (indexed : (i : ℕ) → i < length es → (get_or es i d).index ≡ i) where
    abbrev at : ℕ → TaskEvent
    at i = get_or es i d

    one_place : (i k : ℕ) → i < length es → k < length es → ((at i).index == (at k).index) ≡ true → i ≡ k
    one_place i k m n e = sym (indexed i m) ∙ eqb-true (at i).index (at k).index e ∙ indexed k n

    in_tasks : (i : ℕ) → i < length es → list_any (bytes_eq (at i).task) (tasks_of es) ≡ true
    in_tasks i lt =
        let texts : List (List ℕ) = map (λ (e : TaskEvent). e.task) es in
        let here : get_or texts i [] ≡ (at i).task = get_or-map (λ (e : TaskEvent). e.task) es i d [] lt in
        any_firsts (at i).task texts (list_any_at (bytes_eq (at i).task) texts i [] (omega (arith, lt, length-map es (λ (e : TaskEvent). e.task)))
        ((bytes_eq-Decides (at i).task (get_or texts i [])).1 (sym here)))

    few_tasks : length (tasks_of es) < 2 ^ 62
    few_tasks = omega (arith, few, few_firsts (map (λ (e : TaskEvent). e.task) es), length-map es (λ (e : TaskEvent). e.task))

    abbrev counts : TaskEvent → TaskEvent → Bool
    counts b c = ends_wait es c && (c.index == b.index || is_before c b)

    few_pieces : (b : TaskEvent) → piece_of es b < 2 ^ 62
    few_pieces b = omega (arith, few, count_by-le-length (counts b) es)

    -- what counts for an event counts for a later one
    counts_on : (i k : ℕ) → i < length es → k < length es → is_before (at i) (at k) ≡ true → (j : ℕ) → j < length es → counts (at i) (at j) ≡ true → counts (at k) (at j) ≡ true
    counts_on i k m n before j l h =
        let p = and_parts (ends_wait es (at j)) ((at j).index == (at i).index || is_before (at j) (at i)) h in
        and_from (ends_wait es (at j)) ((at j).index == (at k).index || is_before (at j) (at k)) p.0
        (or_right ((at j).index == (at k).index) (is_before (at j) (at k)) (by (or_cases ((at j).index == (at i).index) (is_before (at j) (at i)) p.1)))
      where
        by : (((at j).index == (at i).index) ≡ true) ⊎ (is_before (at j) (at i) ≡ true) → is_before (at j) (at k) ≡ true
        by (inl e) = ap (λ x. is_before (at x) (at k)) (one_place j i l m e) ∙ before
        by (inr e) = before_yet (at j) (at i) (at k) e before

    piece_le : (i k : ℕ) → i < length es → k < length es → is_before (at i) (at k) ≡ true → piece_of es (at i) ≤ piece_of es (at k)
    piece_le i k m n before = omega (arith, count_le (counts (at i)) (counts (at k)) d es (counts_on i k m n before))

    piece_lt : (i k : ℕ) → i < length es → k < length es → is_before (at i) (at k) ≡ true → ends_wait es (at k) ≡ true → piece_of es (at i) < piece_of es (at k)
    piece_lt i k m n before ends = omega (arith, count_lt (counts (at i)) (counts (at k)) d es k n (counts_on i k m n before) none own)
      where
        own : counts (at k) (at k) ≡ true
        own = and_from (ends_wait es (at k)) ((at k).index == (at k).index || is_before (at k) (at k)) ends (or_left ((at k).index == (at k).index) (is_before (at k) (at k)) (eq-eqb (at k).index (at k).index refl))

        by : (((at k).index == (at i).index) ≡ true) ⊎ (is_before (at k) (at i) ≡ true) → ⊥
        by (inl e) =
            let self : is_before (at i) (at i) ≡ true = ap (λ x. is_before (at i) (at x)) (sym (one_place k i n m e)) ∙ before in
            false≢true (sym (never_both (at i) (at i)) ∙ and_from (is_before (at i) (at i)) (is_before (at i) (at i)) self self)
        by (inr e) = false≢true (sym (never_both (at i) (at k)) ∙ and_from (is_before (at i) (at k)) (is_before (at k) (at i)) before e)

        none : counts (at i) (at k) ≡ false
        none = false_from_ne_true (counts (at i) (at k)) (λ h.
            by (or_cases ((at k).index == (at i).index) (is_before (at k) (at i)) (and_parts (ends_wait es (at k)) ((at k).index == (at i).index || is_before (at k) (at i)) h).1))

    -- under their names two events are of one task only if they were, in one piece
    same_piece : (i k : ℕ) → i < length es → k < length es → OneTask (named (at i)) (named (at k)) → OneTask (at i) (at k) × (piece_of es (at i) ≡ piece_of es (at k))
    same_piece i k m n o =
        let h = one_name (tasks_of es) (at i).task (at k).task (piece_of es (at i)) (piece_of es (at k)) few_tasks (few_pieces (at i)) (few_pieces (at k)) (omega arith) (omega arith) (in_tasks i m) (in_tasks k n) o.task in
        (record { batch = o.batch; request = o.request; task = h.0 }, h.1)

    -- and then the order is the same
    before_named : (a b : TaskEvent) → is_before a b ≡ true → piece_of es a ≡ piece_of es b → is_before (named a) (named b) ≡ true
    before_named a b h e =
        let p = and_parts (are_of_one_task a b) (is_earlier a b) h in
        let o = one_task a b p.0 in
        let name : name_of a ≡ name_of b = λ x. piece_name (tasks_of es) (o.task x) (e x) in
        and_from (are_of_one_task (named a) (named b)) (is_earlier (named a) (named b)) (are_one (named a) (named b) (record { batch = o.batch; request = o.request; task = name })) p.1

    abbrev all_named : List TaskEvent
    all_named = map named es

    -- right before under the names was right before
    module _ (i k : ℕ) (m : i < length es) (n : k < length es) (right : is_right_before all_named (named (at i)) (named (at k)) ≡ true) where
      abbrev between_named : TaskEvent → Bool
      between_named c = is_before (named (at i)) c && is_before c (named (at k))

      abbrev between : TaskEvent → Bool
      between c = is_before (at i) c && is_before c (at k)

      parts : (is_before (named (at i)) (named (at k)) ≡ true) × (not (list_any between_named all_named) ≡ true)
      parts = and_parts (is_before (named (at i)) (named (at k))) (not (list_any between_named all_named)) right

      order : (are_of_one_task (named (at i)) (named (at k)) ≡ true) × (is_earlier (at i) (at k) ≡ true)
      order = and_parts (are_of_one_task (named (at i)) (named (at k))) (is_earlier (named (at i)) (named (at k))) parts.0

      same : OneTask (at i) (at k) × (piece_of es (at i) ≡ piece_of es (at k))
      same = same_piece i k m n (one_task (named (at i)) (named (at k)) order.0)

      before : is_before (at i) (at k) ≡ true
      before = and_from (are_of_one_task (at i) (at k)) (is_earlier (at i) (at k)) (are_one (at i) (at k) same.0) order.1

      none : list_any between es ≡ false
      none = false_from_ne_true (list_any between es) (λ some. by (find between es d some))
        where
          by : (j : ℕ) × (j < length es) × (between (at j) ≡ true) → ⊥
          by (j, l, e) =
              let p = and_parts (is_before (at i) (at j)) (is_before (at j) (at k)) e in
              let low = piece_le i j m l p.0 in
              let high = piece_le j k l n p.1 in
              let first : piece_of es (at i) ≡ piece_of es (at j) = omega (arith, low, high, same.1) in
              let second : piece_of es (at j) ≡ piece_of es (at k) = omega (arith, low, high, same.1) in
              let here : get_or all_named j d ≡ named (at j) = get_or-map named es j d d l in
              let found : between_named (named (at j)) ≡ true = and_from (is_before (named (at i)) (named (at j))) (is_before (named (at j)) (named (at k))) (before_named (at i) (at j) p.0 first) (before_named (at j) (at k) p.1 second) in
              let some : list_any between_named all_named ≡ true = list_any_at between_named all_named j d (omega (arith, l, length-map es named)) (ap between_named here ∙ found) in
              false≢true (sym (ap not some) ∙ parts.1)

      pub right_once : is_right_before es (at i) (at k) ≡ true
      right_once = and_from (is_before (at i) (at k)) (not (list_any between es)) before (ap not none)

      pub no_wait : (at i).sends ≡ true → (at k).receives ≡ true → ⊥
      no_wait sends receives =
          let found : ((at i).sends && is_right_before es (at i) (at k)) ≡ true = and_from (at i).sends (is_right_before es (at i) (at k)) sends right_once in
          let ends : ends_wait es (at k) ≡ true = and_from (at k).receives (list_any (λ a. a.sends && is_right_before es a (at k)) es) receives (list_any_at (λ a. a.sends && is_right_before es a (at k)) es i d m found) in
          omega (arith, same.1, piece_lt i k m n before ends)

    pub ends_none : (k : ℕ) → k < length es → ends_wait all_named (named (at k)) ≡ false
    ends_none k n = false_from_ne_true (ends_wait all_named (named (at k))) (λ e.
        let p = and_parts (at k).receives (list_any (λ a. a.sends && is_right_before all_named a (named (at k))) all_named) e in
        by p.0 (find (λ a. a.sends && is_right_before all_named a (named (at k))) all_named d p.1))
      where
        by : (at k).receives ≡ true → (i : ℕ) × (i < length all_named) × (((get_or all_named i d).sends && is_right_before all_named (get_or all_named i d) (named (at k))) ≡ true) → ⊥
        by receives (i, l, e) =
            let m : i < length es = omega (arith, l, length-map es named) in
            let here : get_or all_named i d ≡ named (at i) = get_or-map named es i d d m in
            let f = and_parts (at i).sends (is_right_before all_named (named (at i)) (named (at k))) (ap (λ a. a.sends && is_right_before all_named a (named (at k))) (sym here) ∙ e) in
            no_wait i k m n f.1 f.0 receives

-- ---- lines

-- the events of lines under other names of tasks, of which the first stand before those lines
renamed : (name : TaskEvent → List ℕ) (front : List (List ℕ)) (b k : ℕ) (lines : List Line) → length front ≡ k
    → task_events_from b k (with_tasks_from (front ++ map name (task_events_from b k lines)) k lines) ≡ map (λ (e : TaskEvent). record e { task = name e }) (task_events_from b k lines)
renamed name front b k [] h = refl
renamed name front b k (Control line command ∷ lines) h = renamed name front (batch_after b command) k lines h
renamed name front b k (Event e ∷ lines) h =
    let one = task_event b k e in
    let rest = task_events_from b (k + 1) lines in
    let here : get_or (front ++ name one ∷ map name rest) k [] ≡ name one = ap (λ n. get_or (front ++ name one ∷ map name rest) n []) (sym h) ∙ get_here front (name one) (map name rest) in
    let names : front ++ name one ∷ map name rest ≡ (front ++ name one ∷ []) ++ map name rest = sym (append_assoc front (name one ∷ []) (map name rest)) in
    let more : length (front ++ name one ∷ []) ≡ k + 1 = omega (arith, h, length-append front (name one ∷ [])) in
    let later = ap (λ ns. task_events_from b (k + 1) (with_tasks_from ns (k + 1) lines)) names ∙ renamed name (front ++ name one ∷ []) b (k + 1) lines more in
    λ i. task_event b k (record e { task = here i }) ∷ later i

pub no_waits : (lines : List Line) → length lines < 2 ^ 61 → All (λ event. ends_wait (task_events (without_waits lines)) event ≡ false) (task_events (without_waits lines))
no_waits lines few =
    let es = task_events lines in
    let d : TaskEvent = record { batch = 0; request = []; task = []; time = 0; index = 0; sends = false; receives = false } in
    let small : length es < 2 ^ 61 = omega (arith, few, tasks_count 0 0 lines, count_within lines) in
    let is : task_events (without_waits lines) ≡ map (named es) es = renamed (name_of es) [] 0 0 lines refl in
    subst (λ (xs : List TaskEvent). All (λ event. ends_wait xs event ≡ false) xs) (sym is)
    (All-map (λ event. ends_wait (map (named es) es) event ≡ false) (named es) es
    (All-from_get_or (λ event. ends_wait (map (named es) es) (named es event) ≡ false) es d (ends_none es small d (λ i lt. index_is 0 0 lines i d lt ∙ omega arith))))

pub else_stays : (names : List (List ℕ)) (k : ℕ) (lines : List Line) → map without_task (with_tasks_from names k lines) ≡ map without_task lines
else_stays names k [] = refl
else_stays names k (Control line command ∷ lines) = ap (λ ls. Control line command ∷ ls) (else_stays names k lines)
else_stays names k (Event e ∷ lines) = ap (λ ls. without_task (Event e) ∷ ls) (else_stays names (k + 1) lines)
