-- Tasks and names by their numbers, in sets, and the waits among segments.
use Rattle.std.proofs.Common.{◌≡◌, ◌⊎◌, ℕ, ◌+◌, ◌<◌, ◌≤◌, ◌||◌, ◌&&◌, List, [], ◌∷◌, Bool, true, false, cond, length, get_or, take, map, ap, refl, sym, ◌∙◌, arith, eqb, inl, inr, Some, None, Bor}
use Rattle.std.specs.Prelude.{is_some, Option, slice_get}
use Rattle.std.specs.Option.{option_copied}
use Rattle.std.specs.HashSet.{HashSet, contains}
use Rattle.std.specs.List.{list_any}
use Rattle.std.specs.Str.{bytes_eq}
use Rattle.std.proofs.lemmas.Bool.{and_right, cases_order, eq-eqb, eqb-true}
use Rattle.std.proofs.lemmas.List.{get_or-map, take_all}
use Rattle.std.proofs.lemmas.List.Folds.{list_any_more}
use Rattle.std.proofs.lemmas.Option.{get_or_from_slice_get, slice_get_within}
use Rattle.std.proofs.lemmas.Slice.Eq.{bytes_eq-Decides}
use Rattle.event_table.specs.Gathered.{NumberedTrace}
use Rattle.event_table.specs.Numbers.{text_under}
use Rattle.event_table.specs.Texts.{AreDifferent}
use Rattle.trace_types.specs.declared.event.Event.{Event}
use Rattle.trace_types.specs.Events.{event_name_at, task_at}
use Rattle.trace_quality.specs.Waits.{is_named}
use Rattle.trace_quality.specs.inner.NamedSets.{has_name, has_names_at}
use Rattle.trace_quality.proofs.MessageLemmas.{or_last, same_bool}

-- a number is that of a text exactly where the texts are equal
pub same_text : (texts : List (List ℕ)) → AreDifferent texts → (a b : ℕ) (text : List ℕ) → slice_get texts a ≡ Some text → b < length texts → eqb a b ≡ bytes_eq text (text_under texts b)
same_text texts differ a b text at lt =
    same_bool (eqb a b) (bytes_eq text (text_under texts b))
    (λ e. (bytes_eq-Decides text (text_under texts b)).1 (sym is ∙ ap (λ k. get_or texts k []) (eqb-true a b e)))
    (λ e. by (sym ((bytes_eq-Decides text (text_under texts b)).0 e) ∙ sym is) (cases_order a b))
  where
    is : get_or texts a [] ≡ text
    is = get_or_from_slice_get texts a text [] at

    by : get_or texts b [] ≡ get_or texts a [] → (a ≡ b) ⊎ ((a < b) ⊎ (b < a)) → eqb a b ≡ true
    by e (inl same) = eq-eqb a b same
    by e (inr (inl less)) = absurd (differ a b [] less lt (sym e))
    by e (inr (inr more)) = absurd (differ b a [] more (slice_get_within texts a text at) e)

-- a set with one task and name more
pub name_put : {S : Type 0} (raw : NumberedTrace) (at : ℕ) (old new : HashSet (ℕ × ℕ) S) (key : ℕ × ℕ) → AreDifferent raw.texts.tasks → AreDifferent raw.texts.names → slice_get raw.texts.tasks key.0 ≡ Some (task_at raw.trace.events at) → slice_get raw.texts.names key.1 ≡ Some (event_name_at raw.trace.events at)
    → ((q : ℕ × ℕ) → contains (λ (a b : ℕ × ℕ). eqb a.0 b.0 && eqb a.1 b.1) new q ≡ cond (eqb key.0 q.0 && eqb key.1 q.1) true (contains (λ (a b : ℕ × ℕ). eqb a.0 b.0 && eqb a.1 b.1) old q))
    → (task name : ℕ) → task < length raw.texts.tasks → name < length raw.texts.names → has_name new task name ≡ (has_name old task name || has_names_at raw task name at)
name_put raw at old new key tasks names task_is name_is h task name lt_task lt_name =
    h (task, name) ∙ or_last (eqb key.0 task && eqb key.1 name) (has_name old task name)
    ∙ ap (λ b. has_name old task name || (b && eqb key.1 name)) (same_text raw.texts.tasks tasks key.0 task _ task_is lt_task)
    ∙ ap (λ b. has_name old task name || (bytes_eq (task_at raw.trace.events at) (text_under raw.texts.tasks task) && b)) (same_text raw.texts.names names key.1 name _ name_is lt_name)

-- some element stands at an index
element : {X : Type 0} (xs : List X) (i : ℕ) → i < length xs → X
element [] i lt = absurd (omega (arith, lt))
element (x ∷ xs) i lt = x

-- the set has the tasks and names of the first so many events of these that pass
abbrev pub ArePassed : {S : Type 0} → (Event → Bool) → NumberedTrace → ℕ → HashSet (ℕ × ℕ) S → Type 0
ArePassed passes raw i set =
    (task name : ℕ) → task < length raw.texts.tasks → name < length raw.texts.names
    → has_name set task name ≡ list_any (λ e. is_named (text_under raw.texts.tasks task) (text_under raw.texts.names name) e && passes e) (take i raw.trace.events)

module _ {S : Type 0} (passes : Event → Bool) (raw : NumberedTrace) (i : ℕ) (old : HashSet (ℕ × ℕ) S) (lt : i < length raw.trace.events) (h : ArePassed passes raw i old) where
  d : Event
  d = element raw.trace.events i lt

  names_at : (task name : ℕ) → has_names_at raw task name i ≡ is_named (text_under raw.texts.tasks task) (text_under raw.texts.names name) (get_or raw.trace.events i d)
  names_at task name =
      ap (λ t. bytes_eq t (text_under raw.texts.tasks task) && bytes_eq (event_name_at raw.trace.events i) (text_under raw.texts.names name)) (get_or-map (λ (e : Event). e.task) raw.trace.events i d [] lt)
      ∙ ap (λ t. bytes_eq (get_or raw.trace.events i d).task (text_under raw.texts.tasks task) && bytes_eq t (text_under raw.texts.names name)) (get_or-map (λ (e : Event). e.event) raw.trace.events i d [] lt)

  more : (task name : ℕ) → list_any (λ e. is_named (text_under raw.texts.tasks task) (text_under raw.texts.names name) e && passes e) (take (i + 1) raw.trace.events) ≡ (list_any (λ e. is_named (text_under raw.texts.tasks task) (text_under raw.texts.names name) e && passes e) (take i raw.trace.events) || (is_named (text_under raw.texts.tasks task) (text_under raw.texts.names name) (get_or raw.trace.events i d) && passes (get_or raw.trace.events i d)))
  more task name = list_any_more (λ e. is_named (text_under raw.texts.tasks task) (text_under raw.texts.names name) e && passes e) raw.trace.events i d lt

  pub passed_more : (new : HashSet (ℕ × ℕ) S) → ((e : Event) → passes (get_or raw.trace.events i e) ≡ true) → ((task name : ℕ) → task < length raw.texts.tasks → name < length raw.texts.names → has_name new task name ≡ (has_name old task name || has_names_at raw task name i)) → ArePassed passes raw (i + 1) new
  passed_more new passing put task name lt_task lt_name =
      put task name lt_task lt_name
      ∙ ap (λ b. b || has_names_at raw task name i) (h task name lt_task lt_name)
      ∙ ap (λ b. list_any (λ e. is_named (text_under raw.texts.tasks task) (text_under raw.texts.names name) e && passes e) (take i raw.trace.events) || b) (names_at task name ∙ and_true _ ∙ ap (λ b. is_named (text_under raw.texts.tasks task) (text_under raw.texts.names name) (get_or raw.trace.events i d) && b) (sym (passing d)))
      ∙ sym (more task name)
    where
      and_true : (b : Bool) → b ≡ (b && true)
      and_true true = refl
      and_true false = refl

  pub passed_not : ((e : Event) → passes (get_or raw.trace.events i e) ≡ false) → ArePassed passes raw (i + 1) old
  passed_not failing task name lt_task lt_name =
      h task name lt_task lt_name
      ∙ or_none _ _ (and_right (is_named (text_under raw.texts.tasks task) (text_under raw.texts.names name) (get_or raw.trace.events i d)) (passes (get_or raw.trace.events i d)) (failing d))
      ∙ sym (more task name)
    where
      or_none : (a b : Bool) → b ≡ false → a ≡ (a || b)
      or_none true b e = refl
      or_none false b e = sym e

pub passed_all : {S : Type 0} (passes : Event → Bool) (raw : NumberedTrace) (i : ℕ) (set : HashSet (ℕ × ℕ) S) → length raw.trace.events ≤ i → ArePassed passes raw i set → (task name : ℕ) → task < length raw.texts.tasks → name < length raw.texts.names → has_name set task name ≡ list_any (λ e. is_named (text_under raw.texts.tasks task) (text_under raw.texts.names name) e && passes e) raw.trace.events
passed_all passes raw i set ge h task name lt_task lt_name =
    h task name lt_task lt_name ∙ ap (list_any (λ e. is_named (text_under raw.texts.tasks task) (text_under raw.texts.names name) e && passes e)) (take_all i raw.trace.events ge)

copied_some : {Y : Type 0} (o : Option (Bor Y)) → is_some (option_copied o) ≡ is_some o
copied_some None = refl
copied_some (Some y) = refl

-- whether the event at an index passes, by what it sends or receives
pub field_passes : {Y : Type 0} (f : Event → Option Y) (events : List Event) (i : ℕ) (o : Option (Bor Y)) (a b : Bool) → i < length events → option_copied o ≡ get_or (map f events) i None → a ≡ is_some o → a ≡ b → (e : Event) → is_some (f (get_or events i e)) ≡ b
field_passes f events i o a b lt is h k e = ap is_some (sym (get_or-map f events i e None lt)) ∙ ap is_some (sym is) ∙ copied_some o ∙ sym h ∙ k
