-- The tasks and names of events, seen event by event.
use Rattle.std.proofs.Common.{◌≡◌, ◌≢◌, ℕ, ◌+◌, ◌<◌, ◌≤◌, Bool, true, false, ◌&&◌, eqb, cond, Option, Some, None, is_some, List, [], ◌∷◌, length, get_or, arith, refl, sym, ap, subst, ◌∙◌, ⊎_elim}
use Rattle.std.specs.Cmp.Derive.{both_true}
use Rattle.std.proofs.lemmas.Bool.{cases_lt, eqb-true, eq-eqb, false≢true}
use Rattle.std.proofs.lemmas.List.{get_or-map, length-map}
use Rattle.std.specs.Prelude.{slice_get}
use Rattle.std.proofs.lemmas.Option.{same_Some}
use Rattle.clock_offsets.specs.NumberPlaces.{NumberPlace, place_in, places_with}
use Rattle.clock_offsets.specs.FirstEvents.{AreFirstEvents}
use Rattle.clock_offsets.specs.declared.first_events.Field.TheVariants.{Task}
use Rattle.trace_types.specs.declared.event.Event.{Event}
use Rattle.trace_types.specs.Repeats.{IsRepeated, IsFirstRepeat, AreDistinct}
use Rattle.trace_types.specs.Events.{task_at, event_name_at, named_events}

-- an event, where a default is asked for
pub no_event : Event
no_event = record { line = 0; request = []; machine = []; task = []; event = []; time = 0; send = None; recv = None }

-- the number of the task of the event at an index
abbrev pub first_at : List ℕ → ℕ → ℕ
first_at firsts k = get_or firsts k 0

-- the key of an event
pub named_at : (events : List Event) (k : ℕ) → k < length events → get_or (named_events events) k None ≡ Some (task_at events k, event_name_at events k)
named_at events k lt =
    let task : task_at events k ≡ (get_or events k no_event).task = get_or-map (λ (e : Event). e.task) events k no_event [] lt in
    let name : event_name_at events k ≡ (get_or events k no_event).event = get_or-map (λ (e : Event). e.event) events k no_event [] lt in
    get_or-map (λ (e : Event). Some (e.task, e.event)) events k no_event None lt ∙ (ap (λ (a : List ℕ). Some (a, (get_or events k no_event).event)) (sym task) ∙ ap (λ (b : List ℕ). Some (task_at events k, b)) (sym name))

-- the number is that of the name of the event at k
abbrev pub IsNameAt : List (List ℕ) → List Event → ℕ → ℕ → Type 0
IsNameAt names events k m = slice_get names m ≡ Some (event_name_at events k)

-- a text has one number
abbrev pub HaveOneNumber : List (List ℕ) → Type 0
HaveOneNumber texts = (i j : ℕ) (text : List ℕ) → slice_get texts i ≡ Some text → slice_get texts j ≡ Some text → i ≡ j

-- the table has the index of each of the first n events, by the numbers of its task and its name
pub record AreSeenTo (names : List (List ℕ)) (events : List Event) (firsts : List ℕ) (n : ℕ) (seen : List NumberPlace) : Type 0 where
  pub numbered : (k : ℕ) → k < n → (m : ℕ) × IsNameAt names events k m
  pub right : (t m k : ℕ) → place_in seen t m ≡ Some k → (k < n) × (first_at firsts k ≡ t) × IsNameAt names events k m
  pub all : (k m : ℕ) → k < n → IsNameAt names events k m → place_in seen (first_at firsts k) m ≡ Some k

pair_parts : (a b c d : List ℕ) (o p : Option (List ℕ × List ℕ)) (key : List ℕ × List ℕ) → o ≡ Some (a, b) → p ≡ Some (c, d) → o ≡ Some key → p ≡ Some key → (a ≡ c) × (b ≡ d)
pair_parts a b c d o p key oa pc ok pk = (ap part_a (sym oa ∙ (both ∙ pc)), ap part_b (sym oa ∙ (both ∙ pc)))
  where
    both : o ≡ p
    both = ok ∙ sym pk

    part_a : Option (List ℕ × List ℕ) → List ℕ
    part_a None = []
    part_a (Some x) = x.0

    part_b : Option (List ℕ × List ℕ) → List ℕ
    part_b None = []
    part_b (Some x) = x.1

-- what a repeat tells of the two events
pub repeat_tells : (events : List Event) (k : ℕ) → IsRepeated (named_events events) k → (j : ℕ) × (j < k) × (k < length events) × (task_at events j ≡ task_at events k) × (event_name_at events j ≡ event_name_at events k)
repeat_tells events k (j, key, before, within, at_j, at_k) =
    let all : length (named_events events) ≡ length events = length-map {B = Option (List ℕ × List ℕ)} events (λ (e : Event). Some (e.task, e.event)) in
    let lk : k < length events = omega arith in
    let lj : j < length events = omega arith in
    let parts = pair_parts (task_at events j) (event_name_at events j) (task_at events k) (event_name_at events k) (get_or (named_events events) j None) (get_or (named_events events) k None) key (named_at events j lj) (named_at events k lk) at_j at_k in
    (j, before, lk, parts.0, parts.1)

-- two events with both alike are a repeat
pub repeat_of : (events : List Event) (j k : ℕ) → j < k → k < length events → task_at events j ≡ task_at events k → event_name_at events j ≡ event_name_at events k → IsRepeated (named_events events) k
repeat_of events j k before lk t m = (
  j,
  (task_at events k, event_name_at events k),
  before,
  simp length-map lk,
  named_at events j (omega arith) ∙ (ap (λ (x : List ℕ). Some (x, event_name_at events j)) t ∙ ap (λ (y : List ℕ). Some (task_at events k, y)) m),
  named_at events k lk,
)

-- none of the first n events repeats
seen_apart : (names : List (List ℕ)) (events : List Event) (firsts : List ℕ) (n : ℕ) (seen : List NumberPlace) → AreFirstEvents Task events firsts → AreSeenTo names events firsts n seen → (k : ℕ) → k < n → IsRepeated (named_events events) k → ⊥
seen_apart names events firsts n seen are s k lt repeat =
    let r = repeat_tells events k repeat in
    let before : r.0 < k = r.1 in
    let lk : k < length events = r.2 in
    let m = s.numbered r.0 (omega arith) in
    let at_j : place_in seen (first_at firsts r.0) m.0 ≡ Some r.0 = s.all r.0 m.0 (omega arith) m.1 in
    let at_k : place_in seen (first_at firsts k) m.0 ≡ Some k = s.all k m.0 lt (m.1 ∙ ap Some r.4) in
    let same : place_in seen (first_at firsts r.0) m.0 ≡ place_in seen (first_at firsts k) m.0 = ap (λ u. place_in seen u m.0) (are.one r.0 k (omega arith) lk r.3) in
    let e : r.0 ≡ k = cc in
    absurd (omega arith)

-- a key that the table has not is there from now on
added : (seen w : List NumberPlace) (t m n : ℕ) → w ≡ places_with seen t m n → place_in seen t m ≡ None → (u v : ℕ) → place_in w u v ≡ cond (eqb t u && eqb m v) (Some n) (place_in seen u v)
added seen w t m n is absent u v = ap (λ ps. place_in ps u v) (is ∙ ap (λ o. cond (is_some o) seen (record { group = t; number = m; place = n } ∷ seen)) absent)

-- and one that it has adds nothing
kept : (seen w : List NumberPlace) (t m n j : ℕ) → w ≡ places_with seen t m n → place_in seen t m ≡ Some j → w ≡ seen
kept seen w t m n j is there = is ∙ ap (λ o. cond (is_some o) seen (record { group = t; number = m; place = n } ∷ seen)) there

itself : (t m : ℕ) → (eqb t t && eqb m m) ≡ true
itself t m = both_true (eq-eqb t t refl) (eq-eqb m m refl)

exact : (t u m v : ℕ) → (eqb t u && eqb m v) ≡ true → (t ≡ u) × (m ≡ v)
exact t u m v e = at (eqb t u) refl e
  where
    at : (b : Bool) → eqb t u ≡ b → (b && eqb m v) ≡ true → (t ≡ u) × (m ≡ v)
    at true same h = (eqb-true t u same, eqb-true m v h)
    at false other h = absurd (false≢true h)

-- the event at the end has its number too
numbered_more : (names : List (List ℕ)) (events : List Event) (n m : ℕ) → ((k : ℕ) → k < n → (i : ℕ) × IsNameAt names events k i) → IsNameAt names events n m → (k : ℕ) → k < n + 1 → (i : ℕ) × IsNameAt names events k i
numbered_more names events n m before is k lt = ⊎_elim
    (λ (below : k < n). before k below)
    (λ (above : n ≤ k). let same : n ≡ k = omega arith in (m, subst (λ (i : ℕ). IsNameAt names events i m) same is))
    (cases_lt k n)

-- an event whose task has the number t, with a name of the number m, that has its own index in the table now
pub seen_new : (names : List (List ℕ)) (events : List Event) (firsts : List ℕ) (n t m : ℕ) (seen w : List NumberPlace) (p : ℕ) → HaveOneNumber names → AreSeenTo names events firsts n seen
    → t ≡ first_at firsts n → IsNameAt names events n m → w ≡ places_with seen t m n → place_in w t m ≡ Some p → p ≡ n → AreSeenTo names events firsts (n + 1) w
seen_new names events firsts n t m seen w p one s task name is now own = at (place_in seen t m) refl
  where
    right : place_in seen t m ≡ None → (u v k : ℕ) (b : Bool) → (eqb t u && eqb m v) ≡ b → cond b (Some n) (place_in seen u v) ≡ Some k → (k < n + 1) × (first_at firsts k ≡ u) × IsNameAt names events k v
    right absent u v k true e h =
        let n_is : n ≡ k = cc in
        let same = exact t u m v e in
        (omega arith, ap (first_at firsts) (sym n_is) ∙ (sym task ∙ same.0), ap (slice_get names) (sym same.1) ∙ (name ∙ ap (λ i. Some (event_name_at events i)) n_is))
    right absent u v k false e h = let r = s.right u v k h in let lt : k < n = r.0 in (omega arith, r.1, r.2)

    all : place_in seen t m ≡ None → (k v : ℕ) → k < n → IsNameAt names events k v → (b : Bool) → (eqb t (first_at firsts k) && eqb m v) ≡ b → cond b (Some n) (place_in seen (first_at firsts k) v) ≡ Some k
    all absent k v lt number true e =
        let same = exact t (first_at firsts k) m v e in
        let there : place_in seen (first_at firsts k) v ≡ Some k = s.all k v lt number in
        let none : place_in seen (first_at firsts k) v ≡ None = ap (λ u. place_in seen u v) (sym same.0) ∙ (ap (place_in seen t) (sym same.1) ∙ absent) in
        cc
    all absent k v lt number false e = s.all k v lt number

    at : (o : Option ℕ) → place_in seen t m ≡ o → AreSeenTo names events firsts (n + 1) w
    at None e = record {
      numbered = numbered_more names events n m s.numbered name;
      right = λ u v k h. right e u v k (eqb t u && eqb m v) refl (sym (added seen w t m n is e u v) ∙ h);
      all = λ k v lt number. ⊎_elim
          (λ (below : k < n). added seen w t m n is e (first_at firsts k) v ∙ all e k v below number (eqb t (first_at firsts k) && eqb m v) refl)
          (λ (above : n ≤ k).
          let same : n ≡ k = omega arith in
          let number_is : m ≡ v = one m v (event_name_at events k) (name ∙ ap (λ i. Some (event_name_at events i)) same) number in
          ap (λ u. place_in w u v) (sym (task ∙ ap (first_at firsts) same)) ∙ (ap (place_in w t) (sym number_is) ∙ (now ∙ ap Some (own ∙ same))))
          (cases_lt k n);
    }
    at (Some j) e =
        let below : j < n = (s.right t m j e).0 in
        let there : place_in w t m ≡ Some j = ap (λ ps. place_in ps t m) (kept seen w t m n j is e) ∙ e in
        let same : j ≡ p = cc in
        absurd (omega arith)

-- where all events were seen, no two have both alike
pub seen_distinct : (names : List (List ℕ)) (events : List Event) (firsts : List ℕ) (n : ℕ) (seen : List NumberPlace) → AreFirstEvents Task events firsts → AreSeenTo names events firsts n seen → n ≡ length events → AreDistinct (named_events events)
seen_distinct names events firsts n seen are s all = λ k repeat. let r = repeat_tells events k repeat in let lk : k < length events = r.2 in seen_apart names events firsts n seen are s k (omega arith) repeat

-- an event that has another's index is the first that repeats
pub seen_repeat : (names : List (List ℕ)) (events : List Event) (firsts : List ℕ) (n t m : ℕ) (seen w : List NumberPlace) (p : ℕ) → AreFirstEvents Task events firsts → AreSeenTo names events firsts n seen → n < length events
    → t ≡ first_at firsts n → IsNameAt names events n m → w ≡ places_with seen t m n → place_in w t m ≡ Some p → p ≢ n → IsFirstRepeat (named_events events) n
seen_repeat names events firsts n t m seen w p are s lt task name is now other = (at (place_in seen t m) refl, λ j h. seen_apart names events firsts n seen are s j h)
  where
    at : (o : Option ℕ) → place_in seen t m ≡ o → IsRepeated (named_events events) n
    at None e =
        let new : place_in w t m ≡ Some n = added seen w t m n is e t m ∙ ap (λ b. cond b (Some n) (place_in seen t m)) (itself t m) in
        let same : p ≡ n = cc in
        absurd (other same)
    at (Some j) e =
        let old = s.right t m j e in
        let before : j < n = old.0 in
        let first : first_at firsts j ≡ first_at firsts n = old.1 ∙ task in
        let same : task_at events j ≡ task_at events n = sym (are.same j (omega arith)) ∙ (ap (task_at events) first ∙ are.same n lt) in
        repeat_of events j n before lt same (same_Some (event_name_at events j) (event_name_at events n) (sym old.2 ∙ name))
