-- A table that was read is the table of a digest that can be read.
use Rattle.std.proofs.Common.{◌≡◌, ℕ, ◌-◌, ◌<◌, ◌≤◌, ◌==◌, ◌||◌, List, [], ◌∷◌, ◌++◌, length, get_or, map, Bool, true, false, true≢false, Option, Some, None, refl, sym, ap, ◌∙◌, subst, ⊎_elim, arith, Ordering}
use Rattle.std.specs.Prelude.{All, Contains, slice_get}
use Rattle.std.specs.Cmp.Lexicographic.{slice_cmp}
use Rattle.std.specs.List.{list_all, list_any}
use Rattle.std.specs.Option.{option_map_or}
use Rattle.std.specs.Ordering.{is_lt, nat_cmp}
use Rattle.std.specs.Str.{bytes_eq}
use Rattle.std.specs.declared.cmp.Ordering.TheVariants.{Less, Equal, Greater}
use Rattle.std.proofs.lemmas.Bool.{and_parts, cases_lt, eqb-true}
use Rattle.std.proofs.lemmas.List.{length-map, map-append}
use Rattle.std.proofs.lemmas.List.Elements.{All-cons, All-nil, Contains-get_or}
use Rattle.std.proofs.lemmas.List.Quantifiers.{all_pairs_push}
use Rattle.std.proofs.lemmas.Option.{get_or_from_slice_get}
use Rattle.std.proofs.lemmas.Slice.Eq.{bytes_eq-Decides}
use Rattle.trace_types.proofs.ElementLemmas.{at_index}
use Rattle.trace_types.specs.NameOrder.{name_cmp}
use Rattle.trace_types.specs.Segments.{SegmentName}
use Rattle.digest_facts.specs.Digests.{Digest, Rises, TellsApart}
use Rattle.digest_facts.specs.Tables.{Table, name_byte, rows_from, task_byte}
use Rattle.digest_facts.proofs.ListLemmas.{from_map, to_map}
use Rattle.digest_facts.proofs.MergeLemmas.{name_apart, nat_apart, text_apart}
use Rattle.digest_facts.proofs.UnionLemmas.{cons_cases, cons_here, cons_there, nil_has, rises_cons}
use Rattle.certificates.specs.Claims.{name_of_texts}
use Rattle.digest_reading.specs.DigestRows.{are_marks, comes_after, has_task, is_name_mark, is_task_mark, latest_day}
use Rattle.digest_reading.specs.Headers.{are_possible}
use Rattle.digest_reading.specs.declared.digest_counts.DigestCounts.{DigestCounts}
use Rattle.digest_laws.specs.ReadableDigests.{IsReadable}
use Rattle.digest_laws.specs.ReadingLaws.{table_by_text}
use Rattle.digest_laws.proofs.AcceptedLemmas.{keys}
use Rattle.digest_laws.proofs.FieldLemmas.{DayIn, NameIn, TaskIn}
use Rattle.digest_laws.proofs.LookLemmas.{AreBelow, HasLengths, HasMarks, look, look_mark, look_none, rows_agree, rows_looked, stands_less}
use Rattle.digest_laws.proofs.MarkLemmas as marks
use Rattle.digest_laws.proofs.NumberLemmas.{IsGoodText, name_back}
use Rattle.digest_laws.proofs.RowLemmas.{AreAccepted}
use Rattle.digest_laws.proofs.WholeLemmas.{IsAccepted}

-- ---- order
is_less : (c : Ordering) → is_lt c ≡ true → c ≡ Less
is_less Less h = refl
is_less Equal h = absurd (true≢false (sym h))
is_less Greater h = absurd (true≢false (sym h))

module _ {X : Type 0} (cmp : X → X → Ordering) (o : TellsApart cmp) where
  -- an element that comes after a rising list is above all of it
  pub above_of : (earlier : List X) (x : X) → Rises cmp earlier → comes_after cmp earlier x ≡ true → (y : X) → Contains earlier y → cmp y x ≡ Less
  above_of earlier x up after y c = by (slice_get earlier (length earlier - 1)) refl after
    where
      by : (q : Option X) → slice_get earlier (length earlier - 1) ≡ q → option_map_or (λ (z : X). is_lt (cmp z x)) q true ≡ true → cmp y x ≡ Less
      by None e h =
          let some : length earlier - 1 < length earlier = omega (arith, c.1) in
          let r = at_index earlier (length earlier - 1) some in
          let n : None ≡ Some r.0 = sym e ∙ r.1 in
          cc
      by (Some z) e h =
          let last : cmp z x ≡ Less = is_less (cmp z x) h in
          let here : get_or earlier (length earlier - 1) y ≡ z = get_or_from_slice_get earlier (length earlier - 1) z y e in
          ⊎_elim
          (λ (lt : c.0 < length earlier - 1).
          let step : cmp (get_or earlier c.0 y) (get_or earlier (length earlier - 1) y) ≡ Less = up c.0 (length earlier - 1) y lt (omega (arith, c.1)) in
          let step' : cmp y z ≡ Less = subst (λ (v : X). cmp v z ≡ Less) c.2 (subst (λ (v : X). cmp (get_or earlier c.0 y) v ≡ Less) here step) in
          o.total.trans y z x step' last)
          (λ (ge : length earlier - 1 ≤ c.0).
          let same : c.0 ≡ length earlier - 1 = omega (arith, c.1, ge) in
          let one : y ≡ z = sym c.2 ∙ ap (λ (n : ℕ). get_or earlier n y) same ∙ here in
          subst (λ (v : X). cmp v x ≡ Less) (sym one) last)
          (cases_lt c.0 (length earlier - 1))

  push_rises : (xs : List X) (x : X) → Rises cmp xs → ((y : X) → Contains xs y → cmp y x ≡ Less) → Rises cmp (xs ++ x ∷ [])
  push_rises xs x up above = all_pairs_push (λ (a b : X). cmp a b ≡ Less) xs x up (λ k d lt. above (get_or xs k d) (Contains-get_or xs k d lt))

  -- elements that rise, all of them above those before
  pub record AreInOrder (earlier xs : List X) : Type 0 where
    pub up : Rises cmp xs
    pub below : AreBelow cmp o earlier xs

  in_order_more : (earlier : List X) (x : X) (xs : List X) → ((y : X) → Contains earlier y → cmp y x ≡ Less) → AreInOrder (earlier ++ x ∷ []) xs → AreInOrder earlier (x ∷ xs)
  in_order_more earlier x xs above more = record {
    up = rises_cons (λ (a b : X). cmp a b ≡ Less) x xs (λ z c. more.below x z (last_there earlier x) c) more.up;
    below = λ y z c d. ⊎_elim
        (λ (e : x ≡ z). subst (λ (v : X). cmp y v ≡ Less) e (above y c))
        (λ (k : Contains xs z). more.below y z (left_there earlier x y c) k)
        (cons_cases x xs z d);
  }
    where
      last_there : (l : List X) (v : X) → Contains (l ++ v ∷ []) v
      last_there [] v = cons_here v []
      last_there (a ∷ l) v = cons_there a (l ++ v ∷ []) v (last_there l v)

      left_there : (l : List X) (v w : X) → Contains l w → Contains (l ++ v ∷ []) w
      left_there [] v w c = absurd (nil_has w c)
      left_there (a ∷ l) v w c = ⊎_elim
          (λ (e : a ≡ w). subst (λ (u : X). Contains (a ∷ (l ++ v ∷ [])) u) e (cons_here a (l ++ v ∷ [])))
          (λ (k : Contains l w). cons_there a (l ++ v ∷ []) w (left_there l v w k))
          (cons_cases a l w c)

  nothing_below : (xs : List X) → AreInOrder xs []
  nothing_below xs = record { up = λ i j d lt within. absurd (omega arith); below = λ y x c d. absurd (nil_has x d) }

  -- what is accepted after those before it rises
  pub listed_in_order : (Accepts : List X → X → Type 0) → ((earlier : List X) (x : X) → Accepts earlier x → comes_after cmp earlier x ≡ true) → (earlier xs : List X) → Rises cmp earlier → AreAccepted Accepts earlier xs → AreInOrder earlier xs
  listed_in_order Accepts after earlier [] up h = nothing_below earlier
  listed_in_order Accepts after earlier (x ∷ xs) up h =
      let above = above_of earlier x up (after earlier x h.0) in
      in_order_more earlier x xs above (listed_in_order Accepts after (earlier ++ x ∷ []) xs (push_rises earlier x up above) h.1)

  module _ (is_mark : ℕ → Bool) (Accepts : List (X × List ℕ) → X × List ℕ → Type 0) (after : (earlier : List (X × List ℕ)) (row : X × List ℕ) → Accepts earlier row → comes_after cmp (map (λ (r : X × List ℕ). r.0) earlier) row.0 ≡ true) (marked : (earlier : List (X × List ℕ)) (row : X × List ℕ) → Accepts earlier row → are_marks is_mark (length earlier) row.1 ≡ true) where
    more_keys : (earlier : List (X × List ℕ)) (row : X × List ℕ) → keys (earlier ++ row ∷ []) ≡ keys earlier ++ row.0 ∷ []
    more_keys earlier row = map-append (λ (r : X × List ℕ). r.0) earlier (row ∷ [])

    pub keys_in_order : (earlier rows : List (X × List ℕ)) → Rises cmp (keys earlier) → AreAccepted Accepts earlier rows → AreInOrder (keys earlier) (keys rows)
    keys_in_order earlier [] up h = nothing_below (keys earlier)
    keys_in_order earlier (row ∷ rows) up h =
        let above = above_of (keys earlier) row.0 up (after earlier row h.0) in
        let e = more_keys earlier row in
        let next : Rises cmp (keys (earlier ++ row ∷ [])) = subst (Rises cmp) (sym e) (push_rises (keys earlier) row.0 up above) in
        in_order_more (keys earlier) row.0 (keys rows) above (subst (λ (l : List X). AreInOrder l (keys rows)) e (keys_in_order (earlier ++ row ∷ []) rows next h.1))

    pub lengths_of : (earlier rows : List (X × List ℕ)) → AreAccepted Accepts earlier rows → HasLengths (keys earlier) rows
    lengths_of earlier [] h = tt
    lengths_of earlier (row ∷ rows) h =
        let p = and_parts (length row.1 == length earlier) (list_all is_mark row.1) (marked earlier row h.0) in
        let long : length row.1 ≡ length (keys earlier) = eqb-true (length row.1) (length earlier) p.0 ∙ sym (length-map earlier (λ (r : X × List ℕ). r.0)) in
        (long, subst (λ (l : List X). HasLengths l rows) (more_keys earlier row) (lengths_of (earlier ++ row ∷ []) rows h.1))

    pub marks_of : (earlier rows : List (X × List ℕ)) → AreAccepted Accepts earlier rows → HasMarks is_mark rows
    marks_of earlier [] h = tt
    marks_of earlier (row ∷ rows) h = ((and_parts (length row.1 == length earlier) (list_all is_mark row.1) (marked earlier row h.0)).1, marks_of (earlier ++ row ∷ []) rows h.1)

  -- ---- the pairs of rows
  module _ (is_mark : ℕ → Bool) (none : is_mark 46 ≡ true) (kinds : (m : ℕ) → is_mark m ≡ true → marks.IsMark m) (rows : List (X × List ℕ)) (up : Rises cmp (keys rows)) (long : HasLengths [] rows) (good : HasMarks is_mark rows) where
    abbrev pub mark : X → X → ℕ
    mark a b = look cmp o [] rows a b

    pub mark_good : (a b : X) → is_mark (look cmp o [] rows a b) ≡ true
    mark_good a b = look_mark cmp o is_mark none [] rows a b good

    pub mark_kind : (a b : X) → marks.IsMark (look cmp o [] rows a b)
    mark_kind a b = kinds (look cmp o [] rows a b) (mark_good a b)

    nil_below : AreBelow cmp o [] (keys rows)
    nil_below y x c d = absurd (nil_has y c)

    nil_rises : Rises cmp []
    nil_rises = λ i j d lt within. absurd (omega arith)

    pub mark_late : (a b : X) → (cmp a b ≡ Less → ⊥) → look cmp o [] rows a b ≡ 46
    mark_late a b not_less = look_none cmp o [] rows a b up nil_below not_less

    pub rows_are : rows_from (λ a b. look cmp o [] rows a b) [] (keys rows) ≡ rows
    rows_are = rows_looked cmp o (λ a b. look cmp o [] rows a b) [] rows (λ a x c. refl) long nil_rises up nil_below

    -- bytes that are the marks of pairs in order make the rows
    pub rows_made : (byte : X → X → ℕ) → ((a b : X) → Contains (keys rows) a → Contains (keys rows) b → cmp a b ≡ Less → byte a b ≡ look cmp o [] rows a b) → rows_from byte [] (keys rows) ≡ rows
    rows_made byte each = rows_agree cmp o byte (λ a b. look cmp o [] rows a b) [] (keys rows) (λ a b c d. absurd (nil_has a c)) (λ a b h. let s = stands_less cmp o (keys rows) a b up h in each a b s.1 s.2 s.0) ∙ rows_are

-- ---- what holds of each accepted element
pub keys_all : {X : Type 0} (P : X → Type 0) (Accepts : List (X × List ℕ) → X × List ℕ → Type 0) → ((earlier : List (X × List ℕ)) (row : X × List ℕ) → Accepts earlier row → P row.0) → (earlier rows : List (X × List ℕ)) → AreAccepted Accepts earlier rows → All P (keys rows)
keys_all P Accepts each earlier [] h = All-nil P
keys_all P Accepts each earlier (row ∷ rows) h = All-cons P row.0 (keys rows) (each earlier row h.0) (keys_all P Accepts each (earlier ++ row ∷ []) rows h.1)

pub listed_all : {X : Type 0} (P : X → Type 0) (Accepts : List X → X → Type 0) → ((earlier : List X) (x : X) → Accepts earlier x → P x) → (earlier xs : List X) → AreAccepted Accepts earlier xs → All P xs
listed_all P Accepts each earlier [] h = All-nil P
listed_all P Accepts each earlier (x ∷ xs) h = All-cons P x xs (each earlier x h.0) (listed_all P Accepts each (earlier ++ x ∷ []) xs h.1)

-- a test that some element passes, or all do
pub any_to : {X : Type 0} (p : X → Bool) (xs : List X) → list_any p xs ≡ true → (x : X) × Contains xs x × (p x ≡ true)
any_to p [] h = absurd (true≢false (sym h))
any_to {X} p (x ∷ xs) h = by (p x) refl (any_to p xs) h
  where
    by : (b : Bool) → p x ≡ b → (list_any p xs ≡ true → (z : X) × Contains xs z × (p z ≡ true)) → (b || list_any p xs) ≡ true → (z : X) × Contains (x ∷ xs) z × (p z ≡ true)
    by true e rest k = (x, cons_here x xs, e)
    by false e rest k = let r = rest k in (r.0, cons_there x xs r.0 r.1, r.2)

pub all_to : {X : Type 0} (p : X → Bool) (xs : List X) (x : X) → list_all p xs ≡ true → Contains xs x → p x ≡ true
all_to p [] x h c = absurd (nil_has x c)
all_to {X} p (y ∷ ys) x h c =
    let q = and_parts (p y) (list_all p ys) h in
    ⊎_elim (λ (e : y ≡ x). sym (ap p e) ∙ q.0) (λ (d : Contains ys x). all_to p ys x q.1 d) (cons_cases y ys x c)

name_kind : (m : ℕ) → is_name_mark m ≡ true → marks.IsMark m
name_kind m h = marks.mark_cases m h

task_kind : (m : ℕ) → is_task_mark m ≡ true → marks.IsMark m
task_kind m h = marks.mark_cases m (rw h refl)

-- ---- the digest
pub record IsTableOfReadable (u : Table SegmentName (List ℕ)) : Type 0 where
  pub digest : Digest SegmentName (List ℕ)
  pub readable : IsReadable digest
  pub table : u ≡ table_by_text digest

module _ (u : Table SegmentName (List ℕ)) (h : IsAccepted u) where
  task_order : AreInOrder (slice_cmp nat_cmp) text_apart [] (keys u.tasks)
  task_order = keys_in_order (slice_cmp nat_cmp) text_apart is_task_mark TaskIn (λ earlier row a. a.after) (λ earlier row a. a.marks) [] u.tasks (λ i j d lt within. absurd (omega arith)) h.tasks

  name_order : AreInOrder name_cmp name_apart [] (keys u.names)
  name_order = keys_in_order name_cmp name_apart is_name_mark (NameIn u.tasks) (λ earlier row a. a.after) (λ earlier row a. a.marks) [] u.names (λ i j d lt within. absurd (omega arith)) h.names

  day_order : AreInOrder nat_cmp nat_apart [] u.days
  day_order = listed_in_order nat_cmp nat_apart DayIn (λ earlier day a. a.after) [] u.days (λ i j d lt within. absurd (omega arith)) h.days

  task_long : HasLengths [] u.tasks
  task_long = lengths_of (slice_cmp nat_cmp) text_apart is_task_mark TaskIn (λ earlier row a. a.after) (λ earlier row a. a.marks) [] u.tasks h.tasks

  name_long : HasLengths [] u.names
  name_long = lengths_of name_cmp name_apart is_name_mark (NameIn u.tasks) (λ earlier row a. a.after) (λ earlier row a. a.marks) [] u.names h.names

  task_good : HasMarks is_task_mark u.tasks
  task_good = marks_of (slice_cmp nat_cmp) text_apart is_task_mark TaskIn (λ earlier row a. a.after) (λ earlier row a. a.marks) [] u.tasks h.tasks

  name_good : HasMarks is_name_mark u.names
  name_good = marks_of name_cmp name_apart is_name_mark (NameIn u.tasks) (λ earlier row a. a.after) (λ earlier row a. a.marks) [] u.names h.names

  abbrev name_mark : SegmentName → SegmentName → ℕ
  name_mark a b = look name_cmp name_apart [] u.names a b

  abbrev task_mark : List ℕ → List ℕ → ℕ
  task_mark a b = look (slice_cmp nat_cmp) text_apart [] u.tasks a b

  name_kinds : (a b : SegmentName) → marks.IsMark (look name_cmp name_apart [] u.names a b)
  name_kinds a b = mark_kind name_cmp name_apart is_name_mark refl name_kind u.names name_order.up name_long name_good a b

  task_kinds : (a b : List ℕ) → marks.IsMark (look (slice_cmp nat_cmp) text_apart [] u.tasks a b)
  task_kinds a b = mark_kind (slice_cmp nat_cmp) text_apart is_task_mark refl task_kind u.tasks task_order.up task_long task_good a b

  task_marked : (a b : List ℕ) → is_task_mark (look (slice_cmp nat_cmp) text_apart [] u.tasks a b) ≡ true
  task_marked a b = mark_good (slice_cmp nat_cmp) text_apart is_task_mark refl task_kind u.tasks task_order.up task_long task_good a b

  name_late : (a b : SegmentName) → (name_cmp a b ≡ Less → ⊥) → look name_cmp name_apart [] u.names a b ≡ 46
  name_late a b not_less = mark_late name_cmp name_apart is_name_mark refl name_kind u.names name_order.up name_long name_good a b not_less

  task_late : (a b : List ℕ) → (slice_cmp nat_cmp a b ≡ Less → ⊥) → look (slice_cmp nat_cmp) text_apart [] u.tasks a b ≡ 46
  task_late a b not_less = mark_late (slice_cmp nat_cmp) text_apart is_task_mark refl task_kind u.tasks task_order.up task_long task_good a b not_less

  -- the digest of the marks
  abbrev built : Digest SegmentName (List ℕ)
  built = record {
    traces = u.traces;
    days = u.days;
    names = keys u.names;
    tasks = keys u.tasks;
    together = marks.pairs_by name_cmp name_apart (keys u.names) name_mark marks.together_in marks.together_in;
    before = marks.pairs_by name_cmp name_apart (keys u.names) name_mark marks.first_in marks.second_in;
    exclusive = marks.pairs_by name_cmp name_apart (keys u.names) name_mark marks.third_in marks.third_in;
    shared = marks.pairs_by (slice_cmp nat_cmp) text_apart (keys u.tasks) task_mark marks.together_in marks.together_in;
    pipe = marks.pairs_by (slice_cmp nat_cmp) text_apart (keys u.tasks) task_mark marks.first_in marks.second_in;
  }

  name_rows : rows_from (name_byte name_cmp (slice_cmp nat_cmp) built) [] (keys u.names) ≡ u.names
  name_rows = rows_made name_cmp name_apart is_name_mark refl name_kind u.names name_order.up name_long name_good (name_byte name_cmp (slice_cmp nat_cmp) built) (λ a b c d less. marks.mark_is name_cmp name_apart (keys u.names) name_mark name_kinds name_late a b c d less)

  task_rows : rows_from (task_byte name_cmp (slice_cmp nat_cmp) built) [] (keys u.tasks) ≡ u.tasks
  task_rows = rows_made (slice_cmp nat_cmp) text_apart is_task_mark refl task_kind u.tasks task_order.up task_long task_good (task_byte name_cmp (slice_cmp nat_cmp) built) (λ a b c d less. marks.task_mark_is (slice_cmp nat_cmp) text_apart (keys u.tasks) task_mark task_kinds task_late a b c d less (task_marked a b))

  -- the task of a name
  task_there : (name : SegmentName) → Contains (keys u.names) name → Contains (keys u.tasks) name.0
  task_there name c =
      let listed = keys_all (λ (n : SegmentName). has_task u.tasks n.0 ≡ true) (NameIn u.tasks) (λ earlier row a. a.listed) [] u.names h.names in
      let has : has_task u.tasks name.0 ≡ true = subst (λ (n : SegmentName). has_task u.tasks n.0 ≡ true) c.2 (listed c.0 name c.1) in
      let r = any_to (λ (q : List ℕ × List ℕ). bytes_eq q.0 name.0) u.tasks has in
      let same : r.0.0 ≡ name.0 = (bytes_eq-Decides r.0.0 name.0).0 r.2 in
      subst (λ (v : List ℕ). Contains (keys u.tasks) v) same (to_map (λ (q : List ℕ × List ℕ). q.0) u.tasks r.0 r.1)

  -- a name of a task
  name_there : (task : List ℕ) → Contains (keys u.tasks) task → (name : SegmentName) × Contains (keys u.names) name × (name.0 ≡ task)
  name_there task c =
      let r = from_map (λ (q : List ℕ × List ℕ). q.0) u.tasks task c in
      let some : list_any (λ n. bytes_eq n.0.0 r.0.0) u.names ≡ true = all_to (λ (t : List ℕ × List ℕ). list_any (λ n. bytes_eq n.0.0 t.0) u.names) u.tasks r.0 h.named r.1 in
      let n = any_to (λ (q : SegmentName × List ℕ). bytes_eq q.0.0 r.0.0) u.names some in
      let same : n.0.0.0 ≡ r.0.0 = (bytes_eq-Decides n.0.0.0 r.0.0).0 n.2 in
      (n.0.0, to_map (λ (q : SegmentName × List ℕ). q.0) u.names n.0 n.1, same ∙ r.2)

  pub table_built : IsTableOfReadable u
  table_built =
      let task_count : length u.tasks ≡ length (keys u.tasks) = sym (length-map u.tasks (λ (r : List ℕ × List ℕ). r.0)) in
      let name_count : length u.names ≡ length (keys u.names) = sym (length-map u.names (λ (r : SegmentName × List ℕ). r.0)) in
      record {
        digest = built;
        readable = record {
          coherent = record {
            form = record {
              days = day_order.up;
              names = name_order.up;
              tasks = task_order.up;
              together = marks.pairs_rise name_cmp name_apart (keys u.names) name_mark marks.together_in marks.together_in;
              before = marks.pairs_rise name_cmp name_apart (keys u.names) name_mark marks.first_in marks.second_in;
              exclusive = marks.pairs_rise name_cmp name_apart (keys u.names) name_mark marks.third_in marks.third_in;
              shared = marks.pairs_rise (slice_cmp nat_cmp) text_apart (keys u.tasks) task_mark marks.together_in marks.together_in;
              pipe = marks.pairs_rise (slice_cmp nat_cmp) text_apart (keys u.tasks) task_mark marks.first_in marks.second_in;
            };
            together = marks.are_pairs name_cmp name_apart (keys u.names) name_mark name_kinds name_late;
            before = marks.before_among name_cmp name_apart (keys u.names) name_mark name_kinds name_late;
            exclusive = marks.exclusive_among name_cmp name_apart (keys u.names) name_mark name_kinds name_late;
            turned = λ a b c. marks.pair_turned name_cmp name_apart (keys u.names) name_mark marks.third_in a b c;
            shared = marks.are_pairs (slice_cmp nat_cmp) text_apart (keys u.tasks) task_mark task_kinds task_late;
            pipe = marks.before_among (slice_cmp nat_cmp) text_apart (keys u.tasks) task_mark task_kinds task_late;
          };
          task_texts = keys_all IsGoodText TaskIn (λ earlier row a. a.good) [] u.tasks h.tasks;
          name_texts = keys_all (λ (n : SegmentName). name_of_texts n.0 n.1 n.2 ≡ Some n) (NameIn u.tasks) (λ earlier row a. name_back row.0 a.good) [] u.names h.names;
          listed = task_there;
          named = name_there;
          possible = subst (λ (c : DigestCounts). are_possible c ≡ true) (λ i. record { traces = u.traces; days = length u.days; tasks = task_count i; names = name_count i }) h.counts.possible;
          traces = h.counts.traces;
          days = listed_all (λ (d : ℕ). d ≤ latest_day) DayIn (λ earlier day a. a.small) [] u.days h.days;
        };
        table = λ i. record { traces = u.traces; days = u.days; tasks = sym task_rows i; names = sym name_rows i };
      }
