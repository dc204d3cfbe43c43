-- The numbers of the events of a trace.
use Rattle.std.proofs.Common.{◌≡◌, ◌≢◌, inl, inr, ℕ, ◌+◌, ◌<◌, ◌≤◌, ◌&&◌, ◌||◌, List, [], ◌∷◌, ◌++◌, Bool, true, false, cond, eqb, length, get_or, take, map, All, ap, refl, sym, subst, ◌∙◌, arith, Some}
use Rattle.std.specs.Prelude.{slice_get, if◌then◌else◌}
use Rattle.std.specs.List.{list_any}
use Rattle.std.specs.Str.{bytes_eq}
use Rattle.std.proofs.lemmas.Bool.{cases_lt}
use Rattle.std.proofs.lemmas.List.{get_or-map, take_all}
use Rattle.std.proofs.lemmas.List.Elements.{All-push}
use Rattle.std.proofs.lemmas.List.Folds.{list_any_more}
use Rattle.std.proofs.lemmas.Option.{get_or_from_slice_get, slice_get-get_or, slice_get_within}
use Rattle.event_table.specs.Gathered.{NumberedTrace}
use Rattle.event_table.specs.Numbers.{text_under}
use Rattle.event_table.specs.Texts.{AreDifferent, TextLists}
use Rattle.trace_types.specs.declared.event.Event.{Event}
use Rattle.trace_types.specs.Batch.{PlainTrace}
use Rattle.trace_types.specs.Events.{event_name_at, task_at}
use Rattle.trace_quality.specs.Waits.{is_named}
use Rattle.trace_quality.proofs.MessageLemmas.{bytes_turn}
use Rattle.trace_quality.proofs.NameLemmas.{same_text}
use Rattle.trace_groups.specs.inner.Names.{AreNames, IsKnown, IsNameAt, IsNumbered, begins_with, has_name, is_name}
use Rattle.trace_groups.proofs.PairLemmas.{or_last}

-- the numbers that are read are those of the event
pub named_at : (texts : TextLists) (t : PlainTrace) (at a b : ℕ) → slice_get texts.tasks a ≡ Some (task_at t.events at) → slice_get texts.names b ≡ Some (event_name_at t.events at) → IsNameAt texts t at (a, b)
named_at texts t at a b task name = record {
  known = (slice_get_within texts.tasks a (task_at t.events at) task, slice_get_within texts.names b (event_name_at t.events at) name);
  task = get_or_from_slice_get texts.tasks a (task_at t.events at) [] task;
  name = get_or_from_slice_get texts.names b (event_name_at t.events at) [] name;
}

-- numbers of texts are equal exactly where the texts are
pub number_text : (texts : List (List ℕ)) → AreDifferent texts → (a b : ℕ) (text : List ℕ) → a < length texts → text_under texts a ≡ text → b < length texts → eqb a b ≡ bytes_eq text (text_under texts b)
number_text texts differ a b text lt is lt_b = same_text texts differ a b text (slice_get-get_or texts a [] lt ∙ ap (λ x. Some x) is) lt_b

-- some element stands at an index
pub element : {X : Type 0} (xs : List X) (i : ℕ) → i < length xs → X
element [] i lt = absurd (omega (arith, lt))
element (x ∷ xs) i lt = x

-- the names of the first so many events
pub record AreNamesBelow (raw : NumberedTrace) (i : ℕ) (names : List (ℕ × ℕ)) : Type 0 where
  pub each : (at : ℕ) → at < i → (k : ℕ × ℕ) × IsNameAt raw.texts raw.trace at k
  pub known : All (IsKnown raw.texts) names
  pub exactly : (k : ℕ × ℕ) → IsKnown raw.texts k → list_any (is_name k) names ≡ list_any (is_named (text_under raw.texts.tasks k.0) (text_under raw.texts.names k.1)) (take i raw.trace.events)

module _ (raw : NumberedTrace) (i : ℕ) (old new : List (ℕ × ℕ)) (key : ℕ × ℕ) (lt : i < length raw.trace.events) (tasks : AreDifferent raw.texts.tasks) (names : AreDifferent raw.texts.names) (h : AreNamesBelow raw i old) (is : IsNameAt raw.texts raw.trace i key) where
  d : Event
  d = element raw.trace.events i lt

  name_is : (k : ℕ × ℕ) → IsKnown raw.texts k → is_name key k ≡ is_named (text_under raw.texts.tasks k.0) (text_under raw.texts.names k.1) (get_or raw.trace.events i d)
  name_is k known =
      ap (λ b. b && eqb key.1 k.1) (number_text raw.texts.tasks tasks key.0 k.0 _ is.known.0 (is.task ∙ get_or-map (λ (e : Event). e.task) raw.trace.events i d [] lt) known.0)
      ∙ ap (λ b. bytes_eq (get_or raw.trace.events i d).task (text_under raw.texts.tasks k.0) && b) (number_text raw.texts.names names key.1 k.1 _ is.known.1 (is.name ∙ get_or-map (λ (e : Event). e.event) raw.trace.events i d [] lt) known.1)

  pub names_more : new ≡ (if list_any (is_name key) old then old else old ++ key ∷ []) → ((q : ℕ × ℕ) → list_any (is_name q) new ≡ cond (is_name key q) true (list_any (is_name q) old)) → AreNamesBelow raw (i + 1) new
  names_more made put = record {
    each = λ at l. elim (cases_lt at i) [
      | inl less ↦ h.each at less
      | inr ge ↦ let same : i ≡ at = omega arith in (key, subst (λ j. IsNameAt raw.texts raw.trace j key) same is)
    ];
    known = subst (All (IsKnown raw.texts)) (sym made) (by (list_any (is_name key) old));
    exactly = λ k known.
        put k ∙ or_last (is_name key k) (list_any (is_name k) old)
        ∙ ap (λ b. b || is_name key k) (h.exactly k known)
        ∙ ap (λ b. list_any (is_named (text_under raw.texts.tasks k.0) (text_under raw.texts.names k.1)) (take i raw.trace.events) || b) (name_is k known)
        ∙ sym (list_any_more (is_named (text_under raw.texts.tasks k.0) (text_under raw.texts.names k.1)) raw.trace.events i d lt);
  }
    where
      by : (b : Bool) → All (IsKnown raw.texts) (if b then old else old ++ key ∷ [])
      by true = h.known
      by false = All-push (IsKnown raw.texts) old key h.known is.known

pub names_all : (raw : NumberedTrace) (i n : ℕ) (names : List (ℕ × ℕ)) → n ≤ i → n ≡ length raw.trace.events → 0 < n → AreNamesBelow raw i names → AreNames raw names
names_all raw i n names ge long some h = record {
  numbered = record { some = omega (arith, some, long); each = λ at l. h.each at (omega (arith, ge, long, l)) };
  known = h.known;
  exactly = λ k known. h.exactly k known ∙ ap (list_any (is_named (text_under raw.texts.tasks k.0) (text_under raw.texts.names k.1))) (take_all i raw.trace.events (omega (arith, ge, long)));
}

-- a trace begins with these numbers exactly where they are those of its first event
pub begin_tells : (texts : TextLists) (t : PlainTrace) (key : ℕ × ℕ) → AreDifferent texts.tasks → AreDifferent texts.names → IsNameAt texts t 0 key → (k : ℕ × ℕ) → IsKnown texts k → is_name key k ≡ begins_with texts k t
begin_tells texts t key tasks names is k known =
    ap (λ b. b && eqb key.1 k.1) (number_text texts.tasks tasks key.0 k.0 _ is.known.0 is.task known.0 ∙ bytes_turn (task_at t.events 0) (text_under texts.tasks k.0))
    ∙ ap (λ b. bytes_eq (text_under texts.tasks k.0) (task_at t.events 0) && b) (number_text texts.names names key.1 k.1 _ is.known.1 is.name known.1 ∙ bytes_turn (event_name_at t.events 0) (text_under texts.names k.1))
