-- The table of a digest that can be read is accepted row by row.
use Rattle.std.proofs.Common.{◌≡◌, ◌⊎◌, ℕ, ◌-◌, ◌≤◌, ◌||◌, List, [], ◌∷◌, ◌++◌, length, get_or, map, Bool, true, false, true≢false, Option, Some, None, refl, sym, ap, ◌∙◌, subst, ⊎_elim, arith, Ordering}
use Rattle.std.specs.Prelude.{All, Contains, slice_get}
use Rattle.std.specs.Cmp.Lexicographic.{slice_cmp}
use Rattle.std.specs.List.{list_all, list_any}
use Rattle.std.specs.Option.{option_map_or}
use Rattle.std.specs.Ordering.{is_lt, nat_cmp}
use Rattle.std.specs.Str.{bytes_eq}
use Rattle.std.specs.declared.cmp.Ordering.TheVariants.{Less}
use Rattle.std.proofs.lemmas.Bool.{eq-eqb}
use Rattle.std.proofs.lemmas.List.{length-map, map-append}
use Rattle.std.proofs.lemmas.List.Elements.{All-head, All-tail, Contains-get_or, Contains-push_cases}
use Rattle.std.proofs.lemmas.Slice.Eq.{bytes_eq-Decides}
use Rattle.trace_types.specs.NameOrder.{name_cmp, pair_cmp}
use Rattle.trace_types.specs.Segments.{SegmentName}
use Rattle.trace_types.proofs.ElementLemmas.{Contains-from_get}
use Rattle.digest_facts.specs.Digests.{Digest, Rises}
use Rattle.digest_facts.specs.Tables.{has, name_byte, pair_byte, rows_from, task_byte}
use Rattle.digest_facts.proofs.ListLemmas.{from_map, to_map}
use Rattle.digest_facts.proofs.MergeLemmas.{name_apart, pair_apart}
use Rattle.digest_facts.proofs.TableLemmas.{has_from, has_to}
use Rattle.digest_facts.proofs.UnionLemmas.{cons_cases, cons_here, cons_there, head_before, nil_has, pairs_tail}
use Rattle.certificates.specs.Claims.{name_of_texts}
use Rattle.digest_reading.specs.DigestRows.{are_marks, are_named, comes_after, has_task, is_name_mark, is_task_mark, latest_day}
use Rattle.digest_reading.specs.Headers.{are_possible}
use Rattle.digest_reading.specs.declared.digest_counts.DigestCounts.{DigestCounts}
use Rattle.digest_laws.specs.ReadableDigests.{IsReadable}
use Rattle.digest_laws.specs.ReadingLaws.{table_by_text}
use Rattle.digest_laws.proofs.CountLemmas.{possible_of}
use Rattle.digest_laws.proofs.DayLemmas.{few_days}
use Rattle.digest_laws.proofs.FieldLemmas.{DayIn, NameIn, TaskIn}
use Rattle.digest_laws.proofs.NumberLemmas.{IsGoodName, IsGoodText, name_is}
use Rattle.digest_laws.proofs.RowLemmas.{AreAccepted}
use Rattle.digest_laws.proofs.WholeLemmas.{IsAccepted, counts_of}

-- the elements of rows
abbrev pub keys : {X : Type 0} → List (X × List ℕ) → List X
keys {X} rows = map (λ (r : X × List ℕ). r.0) rows

-- ---- order
-- an element that is above all before it comes after them
pub after_from : {X : Type 0} (cmp : X → X → Ordering) (earlier : List X) (x : X) → ((y : X) → Contains earlier y → cmp y x ≡ Less) → comes_after cmp earlier x ≡ true
after_from {X} cmp earlier x above = by (slice_get earlier (length earlier - 1)) refl
  where
    by : (o : Option X) → slice_get earlier (length earlier - 1) ≡ o → option_map_or (λ (y : X). is_lt (cmp y x)) o true ≡ true
    by None e = refl
    by (Some y) e = ap is_lt (above y (Contains-from_get earlier (length earlier - 1) y e))

last_cases : {X : Type 0} (xs : List X) (x y : X) → Contains (xs ++ x ∷ []) y → Contains xs y ⊎ (x ≡ y)
last_cases xs x y c = Contains-push_cases xs x y c

-- ---- days
pub days_accepted : (earlier days : List ℕ) → Rises nat_cmp days → ((y x : ℕ) → Contains earlier y → Contains days x → nat_cmp y x ≡ Less) → All (λ d. d ≤ latest_day) days → AreAccepted DayIn earlier days
days_accepted earlier [] up below small = tt
days_accepted earlier (d ∷ days) up below small = (
  record { small = All-head (λ (n : ℕ). n ≤ latest_day) d days small; after = after_from nat_cmp earlier d (λ y c. below y d c (cons_here d days)) },
  days_accepted (earlier ++ d ∷ []) days (pairs_tail (λ (a b : ℕ). nat_cmp a b ≡ Less) d days up)
      (λ y x c e. ⊎_elim
      (λ (k : Contains earlier y). below y x k (cons_there d days x e))
      (λ (k : d ≡ y). subst (λ (v : ℕ). nat_cmp v x ≡ Less) k (head_before (λ (a b : ℕ). nat_cmp a b ≡ Less) d days x up e))
      (last_cases earlier d y c))
      (All-tail (λ (n : ℕ). n ≤ latest_day) d days small),
)

-- ---- rows
mapped_marks : {X : Type 0} (is_mark : ℕ → Bool) (f : X → ℕ) → ((a : X) → is_mark (f a) ≡ true) → (xs : List X) → list_all is_mark (map f xs) ≡ true
mapped_marks is_mark f each [] = refl
mapped_marks is_mark f each (x ∷ xs) = rw (each x, mapped_marks is_mark f each xs) refl

module _ {X : Type 0} (cmp : X → X → Ordering) (byte : X → X → ℕ) (is_mark : ℕ → Bool) (marked : (a b : X) → is_mark (byte a b) ≡ true) (P : X → Type 0) (Accepts : List (X × List ℕ) → X × List ℕ → Type 0)
    (make : (earlier : List (X × List ℕ)) (row : X × List ℕ) → P row.0 → comes_after cmp (map (λ (r : X × List ℕ). r.0) earlier) row.0 ≡ true → are_marks is_mark (length earlier) row.1 ≡ true → Accepts earlier row) where
  row_marks : (earlier : List (X × List ℕ)) (x : X) → are_marks is_mark (length earlier) (map (λ a. byte a x) (keys earlier)) ≡ true
  row_marks earlier x =
      let long : length (map (λ a. byte a x) (keys earlier)) ≡ length earlier = length-map (keys earlier) (λ a. byte a x) ∙ length-map earlier (λ (r : X × List ℕ). r.0) in
      rw (eq-eqb (length (map (λ a. byte a x) (keys earlier))) (length earlier) long) (mapped_marks is_mark (λ a. byte a x) (λ a. marked a x) (keys earlier))

  pub rows_accepted : (earlier : List (X × List ℕ)) (xs : List X) → Rises cmp xs → ((y x : X) → Contains (keys earlier) y → Contains xs x → cmp y x ≡ Less) → All P xs → AreAccepted Accepts earlier (rows_from byte (keys earlier) xs)
  rows_accepted earlier [] up below all = tt
  rows_accepted earlier (x ∷ xs) up below all =
      let row : X × List ℕ = (x, map (λ a. byte a x) (keys earlier)) in
      let more : keys (earlier ++ row ∷ []) ≡ keys earlier ++ x ∷ [] = map-append (λ (r : X × List ℕ). r.0) earlier (row ∷ []) in
      let next : AreAccepted Accepts (earlier ++ row ∷ []) (rows_from byte (keys (earlier ++ row ∷ [])) xs) = rows_accepted (earlier ++ row ∷ []) xs (pairs_tail (λ (a b : X). cmp a b ≡ Less) x xs up)
      (λ y z c e. ⊎_elim
      (λ (k : Contains (keys earlier) y). below y z k (cons_there x xs z e))
      (λ (k : x ≡ y). subst (λ (v : X). cmp v z ≡ Less) k (head_before (λ (a b : X). cmp a b ≡ Less) x xs z up e))
      (last_cases (keys earlier) x y (subst (λ (l : List X). Contains l y) more c)))
      (All-tail P x xs all) in (
        make earlier row (All-head P x xs all) (after_from cmp (keys earlier) x (λ y c. below y x c (cons_here x xs))) (row_marks earlier x),
        subst (λ (l : List X). AreAccepted Accepts (earlier ++ row ∷ []) (rows_from byte l xs)) more next,
      )

pub keys_from : {X : Type 0} (byte : X → X → ℕ) (earlier xs : List X) → keys (rows_from byte earlier xs) ≡ xs
keys_from byte earlier [] = refl
keys_from {X} byte earlier (x ∷ xs) = ap (λ (l : List X). x ∷ l) (keys_from byte (earlier ++ x ∷ []) xs)

pub rows_count : {X : Type 0} (byte : X → X → ℕ) (earlier xs : List X) → length (rows_from byte earlier xs) ≡ length xs
rows_count {X} byte earlier xs = sym (length-map (rows_from byte earlier xs) (λ (r : X × List ℕ). r.0)) ∙ ap (λ (l : List X). length l) (keys_from byte earlier xs)

-- ---- marks
pair_mark : (t b a e : Bool) → (e ≡ true → b ≡ true) → (e ≡ true → a ≡ true) → is_name_mark (pair_byte t b a e) ≡ true
pair_mark false b a e h k = refl
pair_mark true false false false h k = refl
pair_mark true false true false h k = refl
pair_mark true true false false h k = refl
pair_mark true true true false h k = refl
pair_mark true true true true h k = refl
pair_mark true false a true h k = absurd (true≢false (sym (h refl)))
pair_mark true true false true h k = absurd (true≢false (sym (k refl)))

task_mark : (t b a : Bool) → is_task_mark (pair_byte t b a false) ≡ true
task_mark false b a = refl
task_mark true false false = refl
task_mark true false true = refl
task_mark true true false = refl
task_mark true true true = refl

-- ---- tests over rows
pub any_from : {X : Type 0} (p : X → Bool) (xs : List X) (x : X) → Contains xs x → p x ≡ true → list_any p xs ≡ true
any_from p [] x c h = absurd (nil_has x c)
any_from {X} p (y ∷ ys) x c h = ⊎_elim
    (λ (e : y ≡ x). rw (ap p e ∙ h) refl)
    (λ (d : Contains ys x). or_later (p y) (list_any p ys) (any_from p ys x d h))
    (cons_cases y ys x c)
  where
    or_later : (a b : Bool) → b ≡ true → (a || b) ≡ true
    or_later true b e = refl
    or_later false b e = e

pub all_from : {X : Type 0} (p : X → Bool) (xs : List X) → ((x : X) → Contains xs x → p x ≡ true) → list_all p xs ≡ true
all_from p [] h = refl
all_from p (x ∷ xs) h = rw (h x (cons_here x xs), all_from p xs (λ y c. h y (cons_there x xs y c))) refl

-- ---- the table
module _ (s : Digest SegmentName (List ℕ)) (h : IsReadable s) where
  name_marked : (a b : SegmentName) → is_name_mark (name_byte name_cmp (slice_cmp nat_cmp) s a b) ≡ true
  name_marked a b =
      let cmp = pair_cmp name_cmp in
      let o = pair_apart name_cmp name_apart in
      pair_mark (has cmp s.together (a, b)) (has cmp s.before (a, b)) (has cmp s.before (b, a)) (has cmp s.exclusive (a, b))
      (λ e. has_from cmp o s.before (a, b) (h.coherent.exclusive a b (has_to cmp o s.exclusive (a, b) e)))
      (λ e. has_from cmp o s.before (b, a) (h.coherent.exclusive b a (h.coherent.turned a b (has_to cmp o s.exclusive (a, b) e))))

  task_marked : (a b : List ℕ) → is_task_mark (task_byte name_cmp (slice_cmp nat_cmp) s a b) ≡ true
  task_marked a b = task_mark (has (pair_cmp (slice_cmp nat_cmp)) s.shared (a, b)) (has (pair_cmp (slice_cmp nat_cmp)) s.pipe (a, b)) (has (pair_cmp (slice_cmp nat_cmp)) s.pipe (b, a))

  -- the task of a name has a row
  task_listed : (name : SegmentName) → Contains s.names name → has_task (rows_from (task_byte name_cmp (slice_cmp nat_cmp) s) [] s.tasks) name.0 ≡ true
  task_listed name c = list_keys (rows_from (task_byte name_cmp (slice_cmp nat_cmp) s) [] s.tasks) name.0 (subst (λ (l : List (List ℕ)). Contains l name.0) (sym (keys_from (task_byte name_cmp (slice_cmp nat_cmp) s) [] s.tasks)) (h.listed name c))
    where
      list_keys : (rows : List (List ℕ × List ℕ)) (t : List ℕ) → Contains (keys rows) t → list_any (λ r. bytes_eq r.0 t) rows ≡ true
      list_keys [] t c = absurd (nil_has t c)
      list_keys (r ∷ rows) t c = ⊎_elim
          (λ (e : r.0 ≡ t). rw ((bytes_eq-Decides r.0 t).1 e) refl)
          (λ (d : Contains (keys rows) t). or_later (bytes_eq r.0 t) (list_any (λ q. bytes_eq q.0 t) rows) (list_keys rows t d))
          (cons_cases r.0 (keys rows) t c)
        where
          or_later : (a b : Bool) → b ≡ true → (a || b) ≡ true
          or_later true b e = refl
          or_later false b e = e

  -- what holds of a name, with its task's row
  record GoodListed (name : SegmentName) : Type 0 where
    pub good : IsGoodName name
    pub listed : has_task (rows_from (task_byte name_cmp (slice_cmp nat_cmp) s) [] s.tasks) name.0 ≡ true

  good_at : (name : SegmentName) → name_of_texts name.0 name.1 name.2 ≡ Some name → IsGoodName name
  good_at name e = (name_is name.0 name.1 name.2 name e).good

  names_good : All GoodListed s.names
  names_good = λ k d lt. record { good = good_at (get_or s.names k d) (h.name_texts k d lt); listed = task_listed (get_or s.names k d) (Contains-get_or s.names k d lt) }

  tasks_named : are_named (table_by_text s).tasks (table_by_text s).names ≡ true
  tasks_named =
      let tasks : List (List ℕ × List ℕ) = rows_from (task_byte name_cmp (slice_cmp nat_cmp) s) [] s.tasks in
      let names : List (SegmentName × List ℕ) = rows_from (name_byte name_cmp (slice_cmp nat_cmp) s) [] s.names in
      all_from (λ t. list_any (λ n. bytes_eq n.0.0 t.0) names) tasks (λ row c.
      let there : Contains s.tasks row.0 = subst (λ (l : List (List ℕ)). Contains l row.0) (keys_from (task_byte name_cmp (slice_cmp nat_cmp) s) [] s.tasks) (to_map (λ (r : List ℕ × List ℕ). r.0) tasks row c) in
      let named = h.named row.0 there in
      let found = from_map (λ (r : SegmentName × List ℕ). r.0) names named.0 (subst (λ (l : List SegmentName). Contains l named.0) (sym (keys_from (name_byte name_cmp (slice_cmp nat_cmp) s) [] s.names)) named.1) in
      any_from (λ n. bytes_eq n.0.0 row.0) names found.0 found.1 ((bytes_eq-Decides found.0.0.0 row.0).1 (ap (λ (n : SegmentName). n.0) found.2 ∙ named.2)))

  pub table_accepted : IsAccepted (table_by_text s)
  table_accepted =
      let tasks : List (List ℕ × List ℕ) = rows_from (task_byte name_cmp (slice_cmp nat_cmp) s) [] s.tasks in
      let few = possible_of (record { traces = s.traces; days = length s.days; tasks = length s.tasks; names = length s.names }) h.possible in
      let task_count : length (table_by_text s).tasks ≡ length s.tasks = rows_count (task_byte name_cmp (slice_cmp nat_cmp) s) [] s.tasks in
      let name_count : length (table_by_text s).names ≡ length s.names = rows_count (name_byte name_cmp (slice_cmp nat_cmp) s) [] s.names in
      let same : record { traces = s.traces; days = length s.days; tasks = length s.tasks; names = length s.names } ≡ counts_of (table_by_text s) = λ i. record { traces = s.traces; days = length s.days; tasks = sym task_count i; names = sym name_count i } in
      record {
        counts = record {
          traces = h.traces;
          days = few_days s.days h.coherent.form.days h.days;
          tasks = omega (arith, task_count, few.tasks);
          names = omega (arith, name_count, few.names);
          possible = subst (λ (c : DigestCounts). are_possible c ≡ true) same h.possible;
        };
        days = days_accepted [] s.days h.coherent.form.days (λ y x c d. absurd (nil_has y c)) h.days;
        tasks = rows_accepted (slice_cmp nat_cmp) (task_byte name_cmp (slice_cmp nat_cmp) s) is_task_mark task_marked IsGoodText TaskIn (λ earlier row good after marks. record { good = good; after = after; marks = marks }) [] s.tasks h.coherent.form.tasks (λ y x c d. absurd (nil_has y c)) h.task_texts;
        names = rows_accepted name_cmp (name_byte name_cmp (slice_cmp nat_cmp) s) is_name_mark name_marked GoodListed (NameIn tasks) (λ earlier row good after marks. record { good = good.good; after = after; marks = marks; listed = good.listed }) [] s.names h.coherent.form.names (λ y x c d. absurd (nil_has y c)) names_good;
        named = tasks_named;
      }
