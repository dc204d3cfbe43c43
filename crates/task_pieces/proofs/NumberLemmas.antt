-- Tasks by number.
use Rattle.std.proofs.Common.{◌≡◌, ◌⊎◌, inl, inr, ℕ, ◌+◌, ◌<◌, ◌≤◌, List, [], ◌∷◌, ◌++◌, Bool, true, false, All, length, get_or, set, map, max, take, slice_get, Some, refl, sym, ap, subst, ◌∙◌, arith}
use Rattle.std.specs.Prelude.{if◌then◌else◌}
use Rattle.std.specs.List.{list_any}
use Rattle.std.specs.Str.{bytes_eq}
use Rattle.std.proofs.lemmas.Bool.{cases_eq, cases_order}
use Rattle.std.proofs.lemmas.List.{get_or-set_other, get_or-set_same, get_or-take, get_or_append_left, get_or_push, length-append, length-set, length-take-le, map-append, take_more}
use Rattle.std.proofs.lemmas.Option.{get_or_from_slice_get, slice_get-get_or, slice_get_within}
use Rattle.std.proofs.lemmas.Slice.Eq.{bytes_eq-Decides}
use Rattle.trace_types.proofs.FirstsLemmas.{firsts-push}
use Rattle.task_pieces.specs.TaskEvents.{TaskEvent}
use Rattle.task_pieces.specs.TaskKeys.{event_of_key, events_of_keys}
use Rattle.task_pieces.specs.TaskNames.{tasks_of}
use Rattle.task_pieces.specs.declared.task_key.TaskKey.{TaskKey}
use Rattle.task_pieces.specs.inner.Naming.{AreNumbers, with_text}
use Rattle.trace_types.specs.Firsts.{firsts_of}

-- ---- texts with one more

pub grown_get : (texts : List (List ℕ)) (text : List ℕ) (n : ℕ) (x : List ℕ) → slice_get texts n ≡ Some x → slice_get (with_text texts text) n ≡ Some x
grown_get texts text n x h = by (list_any (bytes_eq text) texts)
  where
    by : (b : Bool) → slice_get (if b then texts else texts ++ text ∷ []) n ≡ Some x
    by true = h
    by false =
        let lt = slice_get_within texts n x h in
        slice_get-get_or (texts ++ text ∷ []) n x (omega (arith, lt, length-append texts (text ∷ [])))
        ∙ ap (λ y. Some y) (get_or_append_left texts (text ∷ []) x n lt ∙ get_or_from_slice_get texts n x x h)

pub grown_few : (texts : List (List ℕ)) (text : List ℕ) → length (with_text texts text) ≤ length texts + 1
grown_few texts text = by (list_any (bytes_eq text) texts)
  where
    by : (b : Bool) → length (if b then texts else texts ++ text ∷ []) ≤ length texts + 1
    by true = omega arith
    by false = omega (arith, length-append texts (text ∷ []))

module _ (keys : List TaskKey) (i : ℕ) (k : TaskKey) (lt : i < length keys) (is : k ≡ get_or keys i k) where
  next : take (i + 1) keys ≡ take i keys ++ k ∷ []
  next = take_more keys i k lt ∙ ap (λ (x : TaskKey). take i keys ++ x ∷ []) (sym is)

  pub tasks_more : with_text (tasks_of (events_of_keys (take i keys))) k.task.now ≡ tasks_of (events_of_keys (take (i + 1) keys))
  tasks_more =
      let so_far = events_of_keys (take i keys) in
      let events : events_of_keys (take (i + 1) keys) ≡ so_far ++ event_of_key k ∷ [] = ap events_of_keys next ∙ map-append event_of_key (take i keys) (k ∷ []) in
      sym (ap tasks_of events ∙ ap (firsts_of bytes_eq) (map-append (λ (e : TaskEvent). e.task) so_far (event_of_key k ∷ []))
      ∙ firsts-push bytes_eq (λ x y. (bytes_eq-Decides x y).0) (λ x. (bytes_eq-Decides x x).1 refl) (map (λ (e : TaskEvent). e.task) so_far) k.task.now)

  pub numbers_more : (tasks : List (List ℕ)) (numbers : List ℕ) (number : ℕ) → AreNumbers tasks (take i keys) numbers → slice_get (with_text tasks k.task.now) number ≡ Some k.task.now
      → AreNumbers (with_text tasks k.task.now) (take (i + 1) keys) (numbers ++ number ∷ [])
  numbers_more tasks numbers number h new =
      let short = length-take-le i keys (omega (arith, lt)) in
      let long = length-take-le (i + 1) keys (omega (arith, lt)) in
      record {
        size = omega (arith, h.size, short, long, length-append numbers (number ∷ []));
        told = λ j e within. by j e within (cases_order j i) (omega (arith, h.size, short)) (omega (arith, within, long));
      }
    where
      by : (j : ℕ) (e : TaskKey) → j < length (take (i + 1) keys) → (j ≡ i) ⊎ ((j < i) ⊎ (i < j)) → length numbers ≡ i → j < i + 1 → slice_get (with_text tasks k.task.now) (get_or (numbers ++ number ∷ []) j 0) ≡ Some (get_or (take (i + 1) keys) j e).task.now
      by j e within (inl same) size low =
          let at : get_or (numbers ++ number ∷ []) j 0 ≡ number = get_or_push numbers number 0 j (omega (arith, same, size)) in
          let key : get_or (take (i + 1) keys) j e ≡ k = get_or-take (i + 1) keys j e low ∙ ap (λ n. get_or keys n e) same ∙ get_or_from_slice_get keys i k e (slice_get-get_or keys i k lt ∙ ap (λ (x : TaskKey). Some x) (sym is)) in
          ap (slice_get (with_text tasks k.task.now)) at ∙ new ∙ ap (λ (x : TaskKey). Some x.task.now) (sym key)
      by j e within (inr (inl below)) size low =
          let at : get_or (numbers ++ number ∷ []) j 0 ≡ get_or numbers j 0 = get_or_append_left numbers (number ∷ []) 0 j (omega (arith, size)) in
          let key : get_or (take (i + 1) keys) j e ≡ get_or (take i keys) j e = get_or-take (i + 1) keys j e low ∙ sym (get_or-take i keys j e below) in
          ap (slice_get (with_text tasks k.task.now)) at ∙ grown_get tasks k.task.now (get_or numbers j 0) (get_or (take i keys) j e).task.now (h.told j e (omega (arith, below, length-take-le i keys (omega (arith, lt)))))
          ∙ ap (λ (x : TaskKey). Some x.task.now) (sym key)
      by j e within (inr (inr above)) size low = absurd (omega arith)

-- ---- the greatest pieces

pub set_all : (P : ℕ → Type 0) (xs : List ℕ) (i x : ℕ) → i < length xs → All P xs → P x → All P (set xs i x)
set_all P xs i x lt all one = λ k d within. by k d within (cases_eq k i)
  where
    by : (k d : ℕ) → k < length (set xs i x) → (k ≡ i) ⊎ (k ≡ i → ⊥) → P (get_or (set xs i x) k d)
    by k d within (inl e) = subst P (sym (ap (λ j. get_or (set xs i x) j d) e ∙ get_or-set_same xs i x d lt)) one
    by k d within (inr differs) = subst P (sym (get_or-set_other xs i k x d differs)) (all k d (omega (arith, within, length-set xs i x)))

pub covers_more : (numbers pieces most : List ℕ) (at n : ℕ) → n ≡ get_or numbers at 0 → n < length most → ((i : ℕ) → i < at → get_or pieces i 0 ≤ get_or most (get_or numbers i 0) 0)
    → (i : ℕ) → i < at + 1 → get_or pieces i 0 ≤ get_or (set most n (max (get_or most n 0) (get_or pieces at 0))) (get_or numbers i 0) 0
covers_more numbers pieces most at n is lt so_far i low = by (cases_eq (get_or numbers i 0) n) (cases_order i at)
  where
    value : ℕ
    value = max (get_or most n 0) (get_or pieces at 0)

    by : (get_or numbers i 0 ≡ n) ⊎ (get_or numbers i 0 ≡ n → ⊥) → (i ≡ at) ⊎ ((i < at) ⊎ (at < i)) → get_or pieces i 0 ≤ get_or (set most n value) (get_or numbers i 0) 0
    by (inl e) (inl same) =
        let here : get_or (set most n value) (get_or numbers i 0) 0 ≡ value = ap (λ j. get_or (set most n value) j 0) e ∙ get_or-set_same most n value 0 lt in
        let piece : get_or pieces i 0 ≡ get_or pieces at 0 = ap (λ j. get_or pieces j 0) same in
        omega (arith, here, piece)
    by (inl e) (inr (inl below)) =
        let here : get_or (set most n value) (get_or numbers i 0) 0 ≡ value = ap (λ j. get_or (set most n value) j 0) e ∙ get_or-set_same most n value 0 lt in
        let old : get_or most (get_or numbers i 0) 0 ≡ get_or most n 0 = ap (λ j. get_or most j 0) e in
        omega (arith, here, old, so_far i below)
    by (inl e) (inr (inr above)) = absurd (omega arith)
    by (inr differs) (inl same) = absurd (differs (ap (λ j. get_or numbers j 0) same ∙ sym is))
    by (inr differs) (inr (inl below)) = omega (arith, so_far i below, get_or-set_other most n (get_or numbers i 0) value 0 differs)
    by (inr differs) (inr (inr above)) = absurd (omega arith)
