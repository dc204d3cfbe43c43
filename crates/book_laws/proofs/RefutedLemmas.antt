-- What a named trace refutes by number, and the kept trace that it is by text.
use Rattle.std.proofs.Common.{◌≡◌, ◌≢◌, ◌↔◌, ℕ, Some, List, Contains}
use Rattle.std.specs.List.{enumerate_from, slice_get}
use Rattle.trace_rules.specs.Hypotheses.{Hypothesis, Before, Exclusive, Apart, Pipe, Unshared, RefutesHypothesis}
use Rattle.trace_types.specs.declared.named_trace.NamedTrace.{NamedTrace}
use Rattle.trace_types.specs.Parts.{by_number}
use Rattle.trace_types.specs.Refuting.{StartsEarly}
use Rattle.trace_types.specs.Renaming.{RefuteAlike}
use Rattle.trace_types.specs.Segments.{SegmentName}
use Rattle.segment_names.specs.Known.{Known}
use Rattle.segment_names.specs.Limits.{IsKept}
use Rattle.session_rules.specs.KeptTraces.{Kept, by_kept}
use Rattle.trace_types.proofs.ElementLemmas.{one_item, one_place}
use Rattle.book_laws.specs.Shown.{IsShown}
use Rattle.book_laws.proofs.FoundLemmas.{HasName, HasTask, both_named, name_back, name_to, pipe_tasked, task_back, task_to, unshared_tasked}
use Rattle.book_laws.proofs.HypothesisLemmas.{Stands, before, exclusive, apart, pipe, unshared}

-- what the laws say of a catalogue's numbers and of traces under them
pub record HasLaws (known : Known) : Type 0 where
  pub names : (k : ℕ) (x : SegmentName) → Contains (enumerate_from 0 known.names) (k, x) ↔ (slice_get known.names k ≡ Some x)
  pub tasks : (k : ℕ) (x : List ℕ) → Contains (enumerate_from 0 known.tasks) (k, x) ↔ (slice_get known.tasks k ≡ Some x)
  pub alike : (trace : NamedTrace) (k : Kept) → IsShown known trace k → RefuteAlike by_number by_kept (enumerate_from 0 known.names) (enumerate_from 0 known.tasks) trace k

-- the number of a name, and of a task
abbrev NumberOf : Known → SegmentName → Type 0
NumberOf known a = (n : ℕ) × Contains (enumerate_from 0 known.names) (n, a) × (slice_get known.names n ≡ Some a)

abbrev TaskNumberOf : Known → List ℕ → Type 0
TaskNumberOf known t = (n : ℕ) × Contains (enumerate_from 0 known.tasks) (n, t) × (slice_get known.tasks n ≡ Some t)

-- the name of a number, and the task
abbrev NameOf : Known → ℕ → Type 0
NameOf known n = (a : SegmentName) × Contains (enumerate_from 0 known.names) (n, a) × (slice_get known.names n ≡ Some a)

abbrev TaskOf : Known → ℕ → Type 0
TaskOf known n = (t : List ℕ) × Contains (enumerate_from 0 known.tasks) (n, t) × (slice_get known.tasks n ≡ Some t)

module _ (known : Known) (laws : HasLaws known) (trace : NamedTrace) (k : Kept) (shown : IsShown known trace k) where
  name_number : (a : SegmentName) → HasName by_kept k a → NumberOf known a
  name_number a h =
      let r = name_back by_number by_kept (enumerate_from 0 known.names) (enumerate_from 0 known.tasks) trace k shown.renamed a h in
      (r.0, r.1, (laws.names r.0 a).0 r.1)

  task_number : (t : List ℕ) → HasTask by_kept k t → TaskNumberOf known t
  task_number t h =
      let r = task_back by_number by_kept (enumerate_from 0 known.names) (enumerate_from 0 known.tasks) trace k shown.renamed t h in
      (r.0, r.1, (laws.tasks r.0 t).0 r.1)

  name_text : (n : ℕ) → HasName by_number trace n → NameOf known n
  name_text n h =
      let r = name_to by_number by_kept (enumerate_from 0 known.names) (enumerate_from 0 known.tasks) trace k shown.renamed n h in
      (r.0, r.1, (laws.names n r.0).0 r.1)

  task_text : (n : ℕ) → HasTask by_number trace n → TaskOf known n
  task_text n h =
      let r = task_to by_number by_kept (enumerate_from 0 known.names) (enumerate_from 0 known.tasks) trace k shown.renamed n h in
      (r.0, r.1, (laws.tasks n r.0).0 r.1)

  alike : RefuteAlike by_number by_kept (enumerate_from 0 known.names) (enumerate_from 0 known.tasks) trace k
  alike = laws.alike trace k shown

module _ (known : Known) (kept : IsKept known) (laws : HasLaws known) (trace : NamedTrace) (k : Kept) (shown : IsShown known trace k) where
  -- a hypothesis on numbers that stands for this one, which the named trace refutes
  abbrev NumberTold : Hypothesis SegmentName (List ℕ) → Type 0
  NumberTold h = (r : Hypothesis ℕ ℕ) × Stands known.names known.tasks h r × RefutesHypothesis by_number r trace

  -- one that this hypothesis on numbers stands for, which the kept trace refutes
  abbrev TextTold : Hypothesis ℕ ℕ → Type 0
  TextTold r = (h : Hypothesis SegmentName (List ℕ)) × Stands known.names known.tasks h r × RefutesHypothesis by_kept h k

  -- different names or tasks have different numbers, and the other way round
  names_apart : (m n : ℕ) (a b : SegmentName) → slice_get known.names m ≡ Some a → slice_get known.names n ≡ Some b → a ≢ b → m ≢ n
  names_apart m n a b f g other e = other (one_item known.names n a b (rw e at f) g)

  tasks_apart : (m n : ℕ) (t u : List ℕ) → slice_get known.tasks m ≡ Some t → slice_get known.tasks n ≡ Some u → t ≢ u → m ≢ n
  tasks_apart m n t u f g other e = other (one_item known.tasks n t u (rw e at f) g)

  texts_apart : (m n : ℕ) (a b : SegmentName) → slice_get known.names m ≡ Some a → slice_get known.names n ≡ Some b → m ≢ n → a ≢ b
  texts_apart m n a b f g other e = other (one_place known.names kept.names_differ m n b (rw e at f) g)

  task_texts_apart : (m n : ℕ) (t u : List ℕ) → slice_get known.tasks m ≡ Some t → slice_get known.tasks n ≡ Some u → m ≢ n → t ≢ u
  task_texts_apart m n t u f g other e = other (one_place known.tasks kept.tasks_differ m n u (rw e at f) g)

  -- where the kept trace refutes a hypothesis, the named trace refutes the one on its numbers
  pub to_number : (h : Hypothesis SegmentName (List ℕ)) → RefutesHypothesis by_kept h k → NumberTold h
  to_number (Before a b) h =
      let f = both_named by_kept k a b (λ s t. StartsEarly by_kept k t s) h.1 in
      let m = name_number known laws trace k shown a f.0 in
      let n = name_number known laws trace k shown b f.1 in (
        Before m.0 n.0,
        before (record { first = m.2; second = n.2 }),
        (names_apart m.0 n.0 a b m.2 n.2 h.0, ((alike known laws trace k shown).before m.0 n.0 a b m.1 n.1).1 h.1),
      )
  to_number (Exclusive a b) h =
      let f = both_named by_kept k a b (λ s t. StartsEarly by_kept k s t × StartsEarly by_kept k t s) h.1 in
      let m = name_number known laws trace k shown a f.0 in
      let n = name_number known laws trace k shown b f.1 in (
        Exclusive m.0 n.0,
        exclusive (record { first = m.2; second = n.2 }),
        (names_apart m.0 n.0 a b m.2 n.2 h.0, ((alike known laws trace k shown).exclusive m.0 n.0 a b m.1 n.1).1 h.1),
      )
  to_number (Apart a b) h =
      let f = both_named by_kept k a b (λ s t. Unit {0}) h.1 in
      let m = name_number known laws trace k shown a f.0 in
      let n = name_number known laws trace k shown b f.1 in (
        Apart m.0 n.0,
        apart (record { first = m.2; second = n.2 }),
        (names_apart m.0 n.0 a b m.2 n.2 h.0, ((alike known laws trace k shown).apart m.0 n.0 a b m.1 n.1).1 h.1),
      )
  to_number (Pipe t u) h =
      let f = pipe_tasked by_kept k t u h.1 in
      let m = task_number known laws trace k shown t f.0 in
      let n = task_number known laws trace k shown u f.1 in (
        Pipe m.0 n.0,
        pipe (record { first = m.2; second = n.2 }),
        (tasks_apart m.0 n.0 t u m.2 n.2 h.0, ((alike known laws trace k shown).pipe m.0 n.0 t u m.1 n.1).1 h.1),
      )
  to_number (Unshared t u) h =
      let f = unshared_tasked by_kept k t u h.1 in
      let m = task_number known laws trace k shown t f.0 in
      let n = task_number known laws trace k shown u f.1 in (
        Unshared m.0 n.0,
        unshared (record { first = m.2; second = n.2 }),
        (tasks_apart m.0 n.0 t u m.2 n.2 h.0, ((alike known laws trace k shown).unshared m.0 n.0 t u m.1 n.1).1 h.1),
      )

  -- and the other way round
  pub to_text : (r : Hypothesis ℕ ℕ) → RefutesHypothesis by_number r trace → TextTold r
  to_text (Before m n) h =
      let f = both_named by_number trace m n (λ s t. StartsEarly by_number trace t s) h.1 in
      let a = name_text known laws trace k shown m f.0 in
      let b = name_text known laws trace k shown n f.1 in (
        Before a.0 b.0,
        before (record { first = a.2; second = b.2 }),
        (texts_apart m n a.0 b.0 a.2 b.2 h.0, ((alike known laws trace k shown).before m n a.0 b.0 a.1 b.1).0 h.1),
      )
  to_text (Exclusive m n) h =
      let f = both_named by_number trace m n (λ s t. StartsEarly by_number trace s t × StartsEarly by_number trace t s) h.1 in
      let a = name_text known laws trace k shown m f.0 in
      let b = name_text known laws trace k shown n f.1 in (
        Exclusive a.0 b.0,
        exclusive (record { first = a.2; second = b.2 }),
        (texts_apart m n a.0 b.0 a.2 b.2 h.0, ((alike known laws trace k shown).exclusive m n a.0 b.0 a.1 b.1).0 h.1),
      )
  to_text (Apart m n) h =
      let f = both_named by_number trace m n (λ s t. Unit {0}) h.1 in
      let a = name_text known laws trace k shown m f.0 in
      let b = name_text known laws trace k shown n f.1 in (
        Apart a.0 b.0,
        apart (record { first = a.2; second = b.2 }),
        (texts_apart m n a.0 b.0 a.2 b.2 h.0, ((alike known laws trace k shown).apart m n a.0 b.0 a.1 b.1).0 h.1),
      )
  to_text (Pipe m n) h =
      let f = pipe_tasked by_number trace m n h.1 in
      let a = task_text known laws trace k shown m f.0 in
      let b = task_text known laws trace k shown n f.1 in (
        Pipe a.0 b.0,
        pipe (record { first = a.2; second = b.2 }),
        (task_texts_apart m n a.0 b.0 a.2 b.2 h.0, ((alike known laws trace k shown).pipe m n a.0 b.0 a.1 b.1).0 h.1),
      )
  to_text (Unshared m n) h =
      let f = unshared_tasked by_number trace m n h.1 in
      let a = task_text known laws trace k shown m f.0 in
      let b = task_text known laws trace k shown n f.1 in (
        Unshared a.0 b.0,
        unshared (record { first = a.2; second = b.2 }),
        (task_texts_apart m n a.0 b.0 a.2 b.2 h.0, ((alike known laws trace k shown).unshared m n a.0 b.0 a.1 b.1).0 h.1),
      )
