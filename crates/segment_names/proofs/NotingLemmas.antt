-- A segment is noted: its name and its task stand in the tables.
use Rattle.std.proofs.Common.{◌≡◌, ℕ, suc, ◌<◌, List, [], ◌∷◌, ◌++◌, length, get_or, map, position, Option, Some, None, is_some, Bool, true, false, ◌&&◌, nat_eq, refl, sym, ap, ◌∙◌, subst, true≢false, append-nil, append_assoc, take, IfNone, IfSome, ◌+◌, arith}
use Rattle.std.proofs.lemmas.List.{length-append, length-map, map-append, map_more}
use Rattle.std.proofs.lemmas.List.Folds.{Any-from_list_any, list_any_at}
use Rattle.std.proofs.lemmas.Option.{get_or_from_slice_get, slice_get_within}
use Rattle.std.specs.List.{list_any}
use Rattle.std.specs.Str.{bytes_eq}
use Rattle.indexmap.specs.IndexMap.{insert_entry}
use Rattle.trace_types.specs.declared.segment.Segment.{Segment}
use Rattle.trace_types.specs.Firsts.{firsts_of}
use Rattle.trace_types.specs.Segments.{SegmentName, name_of, task_of}
use Rattle.trace_types.proofs.ComparingLemmas.{text_means, text_own}
use Rattle.trace_types.proofs.ShortLemmas.{firsts-short}
use Rattle.segment_names.specs.declared.name_key.NameKey.{NameKey}
use Rattle.segment_names.specs.Known.{Known, same_name, name_number, with_segments}
use Rattle.event_table.specs.Texts.{AreDifferent}
use Rattle.segment_names.specs.inner.Filing.{Filed, Grows, IsFiled, IsFiledAs, known_in, names_of_entries}
use Rattle.segment_names.proofs.FilingLemmas.{key_tells}
use Rattle.segment_names.proofs.FindLemmas.{any-some, any-none}
use Rattle.segment_names.proofs.FirstLemmas.{firsts-there, firsts-new, firsts-same, firsts-step, none-at}
use Rattle.segment_names.proofs.TextLemmas.{name_means, name_own}

any-map : {E X : Type 0} (f : E → X) (p : X → Bool) (es : List E) → list_any p (map f es) ≡ list_any (λ (e : E). p (f e)) es
any-map f p [] = refl
any-map f p (e ∷ es) = rw (any-map f p es) refl

module _ (tasks events : List (List ℕ)) (names : List (NameKey × SegmentName)) (f : IsFiled tasks events names) (n : SegmentName) where
  -- the task of a name that is there is there
  pub task_there : list_any (same_name n) (names_of_entries names) ≡ true → list_any (bytes_eq n.0) tasks ≡ true
  task_there t =
      let a = Any-from_list_any (λ (e : NameKey × SegmentName). same_name n e.1) names (sym (any-map (λ (e : NameKey × SegmentName). e.1) (same_name n) names) ∙ t) in
      let k = a.0 in
      let e = a.1 in
      let same : n ≡ e.1 = name_means n e.1 a.4 in
      let filed : IsFiledAs tasks events e.0 e.1 = subst (λ (x : NameKey × SegmentName). IsFiledAs tasks events x.0 x.1) a.3 (f.entries k e a.2) in
      let here : get_or tasks e.0.task n.0 ≡ e.1.0 = get_or_from_slice_get tasks e.0.task e.1.0 n.0 filed.task in
      list_any_at (bytes_eq n.0) tasks e.0.task n.0 (slice_get_within tasks e.0.task e.1.0 filed.task)
      (subst (λ (x : List ℕ). bytes_eq n.0 x ≡ true) (ap (λ (m : SegmentName). m.0) same ∙ sym here) (text_own n.0))

  -- a key whose name is not there is new
  pub entry_new : (key : NameKey) (name : SegmentName) → IsFiledAs tasks events key n → list_any (same_name n) (names_of_entries names) ≡ false
      → (k : ℕ) (d : NameKey × SegmentName) → k < length names
      → (nat_eq key.task (get_or names k d).0.task && (nat_eq key.start (get_or names k d).0.start && nat_eq key.end (get_or names k d).0.end)) ≡ false
  entry_new key name at none k d h = key_tells tasks events names f n key at k d h
      ∙ none-at (λ (e : NameKey × SegmentName). same_name n e.1) names (sym (any-map (λ (e : NameKey × SegmentName). e.1) (same_name n) names) ∙ none) k d h

-- a new key goes last
pub inserted_last : (same : NameKey → NameKey → Bool) (key : NameKey) (name : SegmentName) (names : List (NameKey × SegmentName))
    → ((k : ℕ) (d : NameKey × SegmentName) → k < length names → same key (get_or names k d).0 ≡ false) → insert_entry same names key name ≡ names ++ (key, name) ∷ []
inserted_last same key name [] all = refl
inserted_last same key name (e ∷ es) all = rw (all 0 e (omega arith), inserted_last same key name es (λ k d h. all (suc k) d (omega arith))) refl

-- the entries with one more
pub entry_last : (tasks events : List (List ℕ)) (names : List (NameKey × SegmentName)) → IsFiled tasks events names → (n : SegmentName) (key : NameKey) (name : SegmentName)
    → IsFiledAs tasks events key n → list_any (same_name n) (names_of_entries names) ≡ false
    → insert_entry (λ a b. nat_eq a.task b.task && (nat_eq a.start b.start && nat_eq a.end b.end)) names key name ≡ names ++ (key, name) ∷ []
entry_last tasks events names f n key name at none = inserted_last (λ a b. nat_eq a.task b.task && (nat_eq a.start b.start && nat_eq a.end b.end)) key name names (entry_new tasks events names f n key name at none)

some_place : {X : Type 0} (p : X → Bool) (xs : List X) → is_some (position p xs) ≡ true → list_any p xs ≡ true
some_place p xs t = by (position p xs) refl t
  where
    by : (o : Option ℕ) → position p xs ≡ o → is_some o ≡ true → list_any p xs ≡ true
    by None e t = absurd (true≢false (sym t))
    by (Some i) e t = any-some p xs i e

pub no_place : {X : Type 0} (p : X → Bool) (xs : List X) → is_some (position p xs) ≡ false → list_any p xs ≡ false
no_place p xs t = by (position p xs) refl t
  where
    by : (o : Option ℕ) → position p xs ≡ o → is_some o ≡ false → list_any p xs ≡ false
    by None e t = any-none p xs e
    by (Some i) e t = absurd (true≢false t)

-- a name that is there adds nothing
pub note_known : (f : Filed) → IsFiled f.tasks f.events f.names → (s : Segment) → is_some (name_number (known_in f) (name_of s)) ≡ true → known_in f ≡ with_segments (known_in f) (s ∷ [])
note_known f filed s t =
    let there = some_place (same_name (name_of s)) (names_of_entries f.names) t in
    let a = firsts-there same_name name_means name_own (names_of_entries f.names) (name_of s) filed.names_differ there in
    let b = firsts-there bytes_eq text_means text_own f.tasks s.task filed.tasks_differ (task_there f.tasks f.events f.names filed (name_of s) there) in
    λ j. record { names = sym a j; tasks = sym b j }

-- a new name goes last
pub note_new : (f : Filed) → IsFiled f.tasks f.events f.names → (s : Segment) (key : NameKey) (name : SegmentName) (new : Filed)
    → name ≡ name_of s → list_any (same_name (name_of s)) (names_of_entries f.names) ≡ false
    → new.names ≡ f.names ++ (key, name) ∷ [] → new.tasks ≡ firsts_of bytes_eq (f.tasks ++ s.task ∷ [])
    → known_in new ≡ with_segments (known_in f) (s ∷ [])
note_new f filed s key name new same none en et =
    let a : names_of_entries new.names ≡ names_of_entries f.names ++ name_of s ∷ [] = ap names_of_entries en ∙ map-append (λ (e : NameKey × SegmentName). e.1) f.names ((key, name) ∷ []) ∙ ap (λ (n : SegmentName). names_of_entries f.names ++ n ∷ []) same in
    let b = firsts-new same_name name_means name_own (names_of_entries f.names) (name_of s) filed.names_differ none in
    λ j. record { names = (a ∙ sym b) j; tasks = et j }

-- the names, or the tasks, of one segment more
map-step : {X : Type 0} (f : Segment → X) (xs : List X) (segments : List Segment) (k : ℕ) (s : Segment) → k < length segments → s ≡ get_or segments k s
    → (xs ++ map f (take k segments)) ++ f s ∷ [] ≡ xs ++ map f (take (k + 1) segments)
map-step {X} f xs segments k s h at = append_assoc xs (map f (take k segments)) (f s ∷ [])
    ∙ ap (λ (t : Segment). xs ++ (map f (take k segments) ++ f t ∷ [])) at ∙ ap (λ (l : List X). xs ++ l) (sym (map_more f segments k s h))

-- one segment more
pub noted_more : (was known : Known) (segments : List Segment) (k : ℕ) (s : Segment) → AreDifferent known.names → AreDifferent known.tasks
    → known ≡ with_segments was (take k segments) → k < length segments → s ≡ get_or segments k s → with_segments known (s ∷ []) ≡ with_segments was (take (k + 1) segments)
noted_more was known segments k s dn dt e h at =
    let a = firsts-step same_name name_means name_own (was.names ++ map name_of (take k segments)) known.names (name_of s) dn (ap (λ (q : Known). q.names) e) in
    let b = firsts-step bytes_eq text_means text_own (was.tasks ++ map task_of (take k segments)) known.tasks s.task dt (ap (λ (q : Known). q.tasks) e) in
    λ j. record {
      names = (a ∙ ap (firsts_of same_name) (map-step name_of was.names segments k s h at)) j;
      tasks = (b ∙ ap (firsts_of bytes_eq) (map-step task_of was.tasks segments k s h at)) j;
    }

pub noted_none : (was : Known) → AreDifferent was.names → AreDifferent was.tasks → was ≡ with_segments was []
noted_none was dn dt =
    let a = ap (firsts_of same_name) (append-nil was.names) ∙ firsts-same same_name name_means name_own was.names dn in
    let b = ap (firsts_of bytes_eq) (append-nil was.tasks) ∙ firsts-same bytes_eq text_means text_own was.tasks dt in
    λ j. record { names = sym a j; tasks = sym b j }

-- ---- tables that grow

pub grows_none : (f : Filed) → Grows f f
grows_none f = record { tasks = ([], sym (append-nil f.tasks)); events = ([], sym (append-nil f.events)); names = ([], sym (append-nil f.names)) }

then_more : {X : Type 0} (xs ys zs : List X) → (more : List X) × (ys ≡ xs ++ more) → (more : List X) × (zs ≡ ys ++ more) → (more : List X) × (zs ≡ xs ++ more)
then_more xs ys zs a b = (a.0 ++ b.0, b.1 ∙ ap (λ (l : List _). l ++ b.0) a.1 ∙ append_assoc xs a.0 b.0)

pub grows_more : (f g h : Filed) → Grows f g → Grows g h → Grows f h
grows_more f g h a b = record {
  tasks = then_more f.tasks g.tasks h.tasks a.tasks b.tasks;
  events = then_more f.events g.events h.events a.events b.events;
  names = then_more f.names g.names h.names a.names b.names;
}

-- ---- how many are known

pub few_known : {X : Type 0} (same : X → X → Bool) (f : Segment → X) (xs ys : List X) (segments : List Segment) (n : ℕ) → ys ≡ firsts_of same (xs ++ map f segments) → length xs + length segments < n → length ys < n
few_known same f xs ys segments n e h =
    let a = firsts-short same (xs ++ map f segments) in
    let b : length (xs ++ map f segments) ≡ length xs + length (map f segments) = length-append xs (map f segments) in
    let c : length (map f segments) ≡ length segments = length-map segments f in
    let d : length ys ≡ length (firsts_of same (xs ++ map f segments)) = ap length e in
    omega arith

-- whether a name is known is whether looking it up finds it
pub told : (found : Option (ℕ × ℕ)) (number : Option ℕ) → IfNone found (number ≡ None) → IfSome found (λ r. number ≡ Some r.0) → is_some number ≡ is_some found
told None number none some = ap is_some none
told (Some r) number none some = ap is_some some
