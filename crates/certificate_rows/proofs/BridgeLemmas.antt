-- Relations by number and by text: a trace by numbers refutes what the kept trace refutes.
use Rattle.std.proofs.Common.{◌≡◌, ◌≢◌, ◌↔◌, ℕ, ◌<◌, ◌≤◌, min, max, Some, List, sym, ap, ◌∙◌, subst, ⊎_elim, arith}
use Rattle.std.specs.List.{Contains, enumerate_from, slice_get}
use Rattle.std.proofs.lemmas.Bool.{cases_lt}
use Rattle.certificates.specs.declared.matter.Matter.{Matter}
use Rattle.certificates.specs.declared.matter.Matter.TheVariants.{Before, Exclusive, Pipe}
use Rattle.counterexamples.specs.ShownClaims.{relation_between}
use Rattle.hypothesis_index.specs.Refuting.{Refutes}
use Rattle.hypothesis_index.specs.declared.relation.Relation.TheVariants as relation
use Rattle.book_laws.specs.Shown.{IsShown}
use Rattle.segment_names.specs.Known.{Known}
use Rattle.segment_names.specs.Limits.{IsKept}
use Rattle.session_rules.specs.KeptTraces.{Kept, by_kept}
use Rattle.session_rules.specs.Refutations.{RefutesMatter}
use Rattle.trace_types.specs.Parts.{by_number}
use Rattle.trace_types.specs.Pipelines.{HandlesAt, TakesOutOfOrder, TakesUnfinished}
use Rattle.trace_types.specs.Refuting.{RefutesExclusive}
use Rattle.trace_types.specs.Renaming.{IsSegmentRenamed, RefuteAlike}
use Rattle.trace_types.specs.Segments.{SegmentName, name_of, task_of}
use Rattle.trace_types.specs.declared.named_segment.NamedSegment.{NamedSegment}
use Rattle.trace_types.specs.declared.named_trace.NamedTrace.{NamedTrace}
use Rattle.trace_types.specs.declared.segment.Segment.{Segment}
use Rattle.trace_types.proofs.ElementLemmas.{one_item, one_place, Contains-from_get}
use Rattle.certificate_rows.proofs.ElementLemmas.{zip_right}

-- the numbers of the two names or tasks
abbrev pub AreNumbers : Known → Matter → ℕ → ℕ → Type 0
AreNumbers known (Before a b) m n = (slice_get known.names m ≡ Some a) × (slice_get known.names n ≡ Some b)
AreNumbers known (Exclusive a b) m n = (slice_get known.names m ≡ Some a) × (slice_get known.names n ≡ Some b)
AreNumbers known (Pipe t u) m n = (slice_get known.tasks m ≡ Some t) × (slice_get known.tasks n ≡ Some u)

-- what the laws below say of a catalogue
pub record AreLaws (known : Known) : Type 0 where
  pub fits : IsKept known
  pub at_name : (k : ℕ) (x : SegmentName) → Contains (enumerate_from 0 known.names) (k, x) ↔ (slice_get known.names k ≡ Some x)
  pub at_task : (k : ℕ) (x : List ℕ) → Contains (enumerate_from 0 known.tasks) (k, x) ↔ (slice_get known.tasks k ≡ Some x)
  pub alike : (t : NamedTrace) (k : Kept) → IsShown known t k → RefuteAlike by_number by_kept (enumerate_from 0 known.names) (enumerate_from 0 known.tasks) t k
  pub turned : (m n : ℕ) (t : NamedTrace) → RefutesExclusive by_number m n t ↔ RefutesExclusive by_number n m t

module _ (known : Known) (laws : AreLaws known) where
  -- exclusion by number, whichever number is the lesser
  exclusive_either : (m n : ℕ) (t : NamedTrace) → Refutes (relation.Exclusive (min m n) (max m n)) t ↔ RefutesExclusive by_number m n t
  exclusive_either m n t = ⊎_elim
      (λ (lt : m < n).
      let low : min m n ≡ m = omega arith in
      let high : max m n ≡ n = omega arith in
      rw (low, high) ((λ r. r), (λ r. r)))
      (λ (le : n ≤ m).
      let low : min m n ≡ n = omega arith in
      let high : max m n ≡ m = omega arith in
      rw (low, high) (laws.turned n m t))
      (cases_lt m n)

  -- a trace by numbers refutes a relation of two different numbers exactly where the kept trace refutes it
  pub refutes_alike : (matter : Matter) (m n : ℕ) → AreNumbers known matter m n → m ≢ n → (t : NamedTrace) (k : Kept) → IsShown known t k → Refutes (relation_between matter m n) t ↔ RefutesMatter matter k
  refutes_alike (Before a b) m n at differ t k shown =
      let alike = (laws.alike t k shown).before m n a b ((laws.at_name m a).1 at.0) ((laws.at_name n b).1 at.1) in (
        (λ r. ((λ e. differ (one_place known.names laws.fits.names_differ m n a at.0 (at.1 ∙ ap (λ (v : SegmentName). Some v) (sym e)))), alike.0 r)),
        (λ h. alike.1 h.1),
      )
  refutes_alike (Exclusive a b) m n at differ t k shown =
      let alike = (laws.alike t k shown).exclusive m n a b ((laws.at_name m a).1 at.0) ((laws.at_name n b).1 at.1) in
      let either = exclusive_either m n t in (
        (λ r. ((λ e. differ (one_place known.names laws.fits.names_differ m n a at.0 (at.1 ∙ ap (λ (v : SegmentName). Some v) (sym e)))), alike.0 (either.0 r))),
        (λ h. either.1 (alike.1 h.1)),
      )
  refutes_alike (Pipe a b) m n at differ t k shown =
      let alike = (laws.alike t k shown).pipe m n a b ((laws.at_task m a).1 at.0) ((laws.at_task n b).1 at.1) in (
        (λ r. ((λ e. differ (one_place known.tasks laws.fits.tasks_differ m n a at.0 (at.1 ∙ ap (λ (v : List ℕ). Some v) (sym e)))), alike.0 r)),
        (λ h. alike.1 h.1),
      )

  -- ---- what a kept trace refutes has numbers
  module _ (t : NamedTrace) (k : Kept) (shown : IsShown known t k) where
    segment_of : (x : Segment) → Contains k.trace.segments x → (s : NamedSegment) × (slice_get known.names s.name ≡ Some (name_of x)) × (slice_get known.tasks s.task ≡ Some (task_of x))
    segment_of x c =
        let z = zip_right (IsSegmentRenamed by_number by_kept (enumerate_from 0 known.names) (enumerate_from 0 known.tasks) shown.renamed.elements) t.segments k.trace.segments shown.renamed.segments x c in
        (z.0, (laws.at_name z.0.name (name_of x)).0 z.2.name, (laws.at_task z.0.task (task_of x)).0 z.2.task)

    name_number : (x : Segment) (a : SegmentName) → Contains k.trace.segments x → name_of x ≡ a → (m : ℕ) × (slice_get known.names m ≡ Some a)
    name_number x a c e = let s = segment_of x c in (s.0.name, s.1 ∙ ap (λ (v : SegmentName). Some v) e)

    task_number : (j : ℕ) (x : Segment) (u element : List ℕ) → HandlesAt by_kept k u element j x → (m : ℕ) × (slice_get known.tasks m ≡ Some u)
    task_number j x u element h = let s = segment_of x (Contains-from_get k.trace.segments j x h.segment) in (s.0.task, s.2 ∙ ap (λ (v : List ℕ). Some v) h.task)

    apart : {X : Type 0} (texts : List X) (m n : ℕ) (x y : X) → slice_get texts m ≡ Some x → slice_get texts n ≡ Some y → x ≢ y → m ≢ n
    apart texts m n x y p q differ e = differ (one_item texts n x y (subst (λ (i : ℕ). slice_get texts i ≡ Some x) e p) q)

    pub refuted_numbers : (matter : Matter) → RefutesMatter matter k → (m : ℕ) × (n : ℕ) × AreNumbers known matter m n × (m ≢ n)
    refuted_numbers (Before a b) h =
        let both = h.1 in
        let m = name_number both.0 a both.2 both.4 in
        let n = name_number both.1 b both.3 both.5 in
        (m.0, n.0, (m.1, n.1), apart known.names m.0 n.0 a b m.1 n.1 h.0)
    refuted_numbers (Exclusive a b) h =
        let both = h.1 in
        let m = name_number both.0 a both.2 both.4 in
        let n = name_number both.1 b both.3 both.5 in
        (m.0, n.0, (m.1, n.1), apart known.names m.0 n.0 a b m.1 n.1 h.0)
    refuted_numbers (Pipe a b) h = ⊎_elim
        (λ (r : TakesUnfinished by_kept a b k).
        let m = task_number r.giver r.given a r.element r.ends.handles in
        let n = task_number r.taker r.taken b r.element r.starts.handles in
        (m.0, n.0, (m.1, n.1), apart known.tasks m.0 n.0 a b m.1 n.1 h.0))
        (λ (r : TakesOutOfOrder by_kept a b k).
        let m = task_number r.in_order.earlier r.in_order.s a r.one r.in_order.first.handles in
        let n = task_number r.turned.earlier r.turned.s b r.other r.turned.first.handles in
        (m.0, n.0, (m.1, n.1), apart known.tasks m.0 n.0 a b m.1 n.1 h.0))
        h.1
