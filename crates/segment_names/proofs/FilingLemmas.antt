-- Tables that are filed stay so as they grow, and a name is found by the indices of its texts.
use Rattle.std.proofs.Common.{◌≡◌, ℕ, ◌+◌, ◌<◌, List, [], ◌∷◌, ◌++◌, length, get_or, map, position, slice_get, Some, None, Bool, true, false, ◌&&◌, nat_eq, refl, sym, ap, ◌∙◌, subst, length-append, arith}
use Rattle.std.proofs.lemmas.Bool.{false_from_ne_true}
use Rattle.std.proofs.lemmas.List.{map-append, get_or-map, length-map, get_or_append_left}
use Rattle.std.proofs.lemmas.List.Elements.{All-push}
use Rattle.std.proofs.lemmas.Option.{get_or_from_slice_get, slice_get_within, slice_get_read}
use Rattle.std.specs.List.{list_any}
use Rattle.std.specs.Str.{bytes_eq}
use Rattle.trace_types.specs.Segments.{SegmentName}
use Rattle.trace_types.proofs.ComparingLemmas.{text_means, text_own}
use Rattle.segment_names.specs.declared.name_key.NameKey.{NameKey}
use Rattle.segment_names.specs.Known.{same_name}
use Rattle.event_table.specs.Texts.{AreDifferent}
use Rattle.segment_names.specs.inner.Filing.{IsFiled, IsFiledAs, names_of_entries}
use Rattle.segment_names.proofs.FindLemmas.{none-passes, position-none, position-at, positions-alike, index-means, found-there}
use Rattle.segment_names.proofs.FirstLemmas.{differ-new}
use Rattle.segment_names.proofs.TextLemmas.{name_means, name_own}

-- what stands in a list stands there with more behind it
pub still_there : {X : Type 0} (xs new more : List X) (i : ℕ) (x : X) → new ≡ xs ++ more → slice_get xs i ≡ Some x → slice_get new i ≡ Some x
still_there xs new more i x e h =
    let l = slice_get_within xs i x h in
    let g : get_or xs i x ≡ x = get_or_from_slice_get xs i x x h in
    let a : get_or (xs ++ more) i x ≡ get_or xs i x = get_or_append_left xs more x i l in
    let s : length (xs ++ more) ≡ length xs + length more = length-append xs more in
    subst (λ (l : List _). slice_get l i ≡ Some x) (sym e) (slice_get_read (xs ++ more) (length (xs ++ more)) i x refl (omega arith) (sym (a ∙ g)))

pub still_filed : (tasks events more_tasks more_events new_tasks new_events : List (List ℕ)) (key : NameKey) (name : SegmentName)
    → new_tasks ≡ tasks ++ more_tasks → new_events ≡ events ++ more_events → IsFiledAs tasks events key name → IsFiledAs new_tasks new_events key name
still_filed tasks events more_tasks more_events new_tasks new_events key name et ee f = record {
  task = still_there tasks new_tasks more_tasks key.task name.0 et f.task;
  start = still_there events new_events more_events key.start name.1 ee f.start;
  end = still_there events new_events more_events key.end name.2 ee f.end;
}

-- tasks and events grow
pub grown_filed : (tasks events more_tasks more_events new_tasks new_events : List (List ℕ)) (names : List (NameKey × SegmentName))
    → new_tasks ≡ tasks ++ more_tasks → new_events ≡ events ++ more_events → AreDifferent new_tasks → AreDifferent new_events
    → IsFiled tasks events names → IsFiled new_tasks new_events names
grown_filed tasks events more_tasks more_events new_tasks new_events names et ee dt de f = record {
  entries = λ k d h. still_filed tasks events more_tasks more_events new_tasks new_events (get_or names k d).0 (get_or names k d).1 et ee (f.entries k d h);
  tasks_differ = dt;
  events_differ = de;
  names_differ = f.names_differ;
}

-- one more name
pub name_filed : (tasks events : List (List ℕ)) (names : List (NameKey × SegmentName)) (key : NameKey) (name : SegmentName)
    → IsFiled tasks events names → IsFiledAs tasks events key name → list_any (same_name name) (names_of_entries names) ≡ false
    → IsFiled tasks events (names ++ (key, name) ∷ [])
name_filed tasks events names key name f at new = record {
  entries = All-push (λ (e : NameKey × SegmentName). IsFiledAs tasks events e.0 e.1) names (key, name) f.entries at;
  tasks_differ = f.tasks_differ;
  events_differ = f.events_differ;
  names_differ = subst AreDifferent (sym (map-append (λ (e : NameKey × SegmentName). e.1) names ((key, name) ∷ []))) (differ-new same_name name_means name_own (names_of_entries names) name f.names_differ new);
}

-- ---- a name is found

module _ (tasks events : List (List ℕ)) (names : List (NameKey × SegmentName)) (f : IsFiled tasks events names) (n : SegmentName) where
  -- where no text passes the test of a part, no name is the one looked for
  none_named : ((k : ℕ) (d : NameKey × SegmentName) → k < length names → same_name n (get_or names k d).1 ≡ false) → position (same_name n) (names_of_entries names) ≡ None
  none_named all = positions-alike (λ (e : NameKey × SegmentName). e.1) (λ (e : NameKey × SegmentName). e.1) (same_name n) (λ _. false) names all ∙ position-none (λ (_ : SegmentName). false) (names_of_entries names) (λ k d h. refl)

  text_apart : (texts : List (List ℕ)) (x y : List ℕ) (i : ℕ) → position (bytes_eq x) texts ≡ None → slice_get texts i ≡ Some y → bytes_eq x y ≡ false
  text_apart texts x y i none here = subst (λ (z : List ℕ). bytes_eq x z ≡ false) (get_or_from_slice_get texts i y y here) (none-passes (bytes_eq x) texts none i y (slice_get_within texts i y here))

  pub no_task : position (bytes_eq n.0) tasks ≡ None → position (same_name n) (names_of_entries names) ≡ None
  no_task none = none_named (λ k d h. let e = get_or names k d in let a = text_apart tasks n.0 e.1.0 e.0.task none (f.entries k d h).task in rw a refl)

  pub no_start : position (bytes_eq n.1) events ≡ None → position (same_name n) (names_of_entries names) ≡ None
  no_start none = none_named (λ k d h. let e = get_or names k d in let a = text_apart events n.1 e.1.1 e.0.start none (f.entries k d h).start in middle (bytes_eq n.0 e.1.0) (bytes_eq n.1 e.1.1) (bytes_eq n.2 e.1.2) a)
    where
      middle : (a b c : Bool) → b ≡ false → (a && (b && c)) ≡ false
      middle true b c e = rw e refl
      middle false b c e = refl

  pub no_end : position (bytes_eq n.2) events ≡ None → position (same_name n) (names_of_entries names) ≡ None
  no_end none = none_named (λ k d h. let e = get_or names k d in let a = text_apart events n.2 e.1.2 e.0.end none (f.entries k d h).end in last (bytes_eq n.0 e.1.0) (bytes_eq n.1 e.1.1) (bytes_eq n.2 e.1.2) a)
    where
      last : (a b c : Bool) → c ≡ false → (a && (b && c)) ≡ false
      last true true c e = e
      last true false c e = refl
      last false b c e = refl

  -- keys are equal where names are
  pub key_tells : (key : NameKey) → IsFiledAs tasks events key n → (k : ℕ) (d : NameKey × SegmentName) → k < length names
      → (nat_eq key.task (get_or names k d).0.task && (nat_eq key.start (get_or names k d).0.start && nat_eq key.end (get_or names k d).0.end)) ≡ same_name n (get_or names k d).1
  key_tells key at k d h =
      let e = get_or names k d in
      let g = f.entries k d h in
      let a = index-means bytes_eq text_means text_own tasks f.tasks_differ key.task e.0.task n.0 e.1.0 at.task g.task in
      let b = index-means bytes_eq text_means text_own events f.events_differ key.start e.0.start n.1 e.1.1 at.start g.start in
      let c = index-means bytes_eq text_means text_own events f.events_differ key.end e.0.end n.2 e.1.2 at.end g.end in
      λ j. a j && (b j && c j)

  -- so the key stands where the name does
  pub key_found : (key : NameKey) → IsFiledAs tasks events key n
      → position (λ (other : NameKey). nat_eq key.task other.task && (nat_eq key.start other.start && nat_eq key.end other.end)) (map (λ (e : NameKey × SegmentName). e.0) names) ≡ position (same_name n) (names_of_entries names)
  key_found key at = positions-alike (λ (e : NameKey × SegmentName). e.0) (λ (e : NameKey × SegmentName). e.1) (λ (other : NameKey). nat_eq key.task other.task && (nat_eq key.start other.start && nat_eq key.end other.end)) (same_name n) names (key_tells key at)

  pub found_as : (task start end : ℕ) → position (bytes_eq n.0) tasks ≡ Some task → position (bytes_eq n.1) events ≡ Some start → position (bytes_eq n.2) events ≡ Some end
      → IsFiledAs tasks events (record { task = task; start = start; end = end }) n
  found_as task start end t s e = record {
    task = found-there bytes_eq text_means text_own tasks n.0 task t;
    start = found-there bytes_eq text_means text_own events n.1 start s;
    end = found-there bytes_eq text_means text_own events n.2 end e;
  }

  -- the entry at an index has the texts of the name looked for: it is the only one
  pub named_there : (key : NameKey) (name : SegmentName) (i : ℕ) → slice_get names i ≡ Some (key, name) → name ≡ n
      → (position (same_name n) (names_of_entries names) ≡ Some i) × (slice_get tasks key.task ≡ Some n.0)
  named_there key name i e same =
      let entry : NameKey × SegmentName = (key, name) in
      let at : get_or names i entry ≡ entry = get_or_from_slice_get names i entry entry e in
      let within : i < length names = slice_get_within names i entry e in
      let named : get_or (names_of_entries names) i name ≡ n = get_or-map (λ (x : NameKey × SegmentName). x.1) names i entry name within ∙ ap (λ (x : NameKey × SegmentName). x.1) at ∙ same in
      let long : length (names_of_entries names) ≡ length names = length-map names (λ (x : NameKey × SegmentName). x.1) in
      let filed : IsFiledAs tasks events key name = subst (λ (x : NameKey × SegmentName). IsFiledAs tasks events x.0 x.1) at (f.entries i entry within) in (
        position-at (same_name n) (names_of_entries names) i name (omega arith)
            (λ k l. false_from_ne_true (same_name n (get_or (names_of_entries names) k name)) (λ t. f.names_differ k i name l (omega arith) (sym (name_means n (get_or (names_of_entries names) k name) t) ∙ sym named)))
            (subst (λ (x : SegmentName). same_name n x ≡ true) (sym named) (name_own n)),
        filed.task ∙ ap (λ (x : SegmentName). Some x.0) same,
      )
