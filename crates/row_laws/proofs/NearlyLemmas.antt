-- The rows `nearly` of the evidence of kept traces name the relations that few of them refute.
use Rattle.std.proofs.Common.{◌≡◌, ◌≢◌, ◌↔◌, ℕ, ◌*◌, ◌<◌, ◌≤◌, Some, List, slice_get, arith}
use Rattle.trace_types.specs.Pipelines.{RefutesPipe, RefutesUnshared}
use Rattle.trace_types.specs.Refuting.{RefutesApart, RefutesBefore, RefutesExclusive}
use Rattle.trace_types.specs.Segments.{SegmentName}
use Rattle.trace_types.specs.Surviving.{IsRefuted}
use Rattle.evidence_rules.specs.EvidenceRows.{is_nearly_exclusion, is_nearly_order, is_nearly_pipe}
use Rattle.evidence_rules.specs.declared.between.Between.{Between}
use Rattle.evidence_rules.specs.declared.choice.Choice.{Choice}
use Rattle.evidence_rules.specs.declared.sharing.Sharing.{Sharing}
use Rattle.session_rules.specs.EvidenceTexts.{IsEvidenceText}
use Rattle.session_rules.specs.KeptTraces.{Kept, by_kept}
use Rattle.row_laws.specs.ModelRows.{NamesMeet, TasksMeet, TwoNames, TwoTasks}
use Rattle.row_laws.specs.NearlyRows.{FewRefute, IsNearlyExclusion, IsNearlyOrder, IsNearlyPipe, NearlyExclusionRowsAreFew, NearlyOrderRowsAreFew, NearlyPipeRowsAreFew}
use Rattle.row_laws.specs.TraceCounts.{AreSoMany}
use Rattle.row_laws.proofs.CountLemmas.{many_some, so_many_one}
use Rattle.row_laws.proofs.KeptLemmas.{Told, counts, have_both, refute}
use Rattle.row_laws.proofs.ModelLemmas.{between_traces, listed_tells, meet_tells, names_rows, names_told, sharing_traces, tasks_meet, tasks_rows, tasks_told, tasks_two, two_differ, two_rise}
use Rattle.row_laws.proofs.TestLemmas.{nearly_exclusion_tells, nearly_order_tells, nearly_pipe_tells}

-- few refute exactly where the numbers say so
few_means : {A : Type 0} (Refutes HaveBoth : A → Type 0) (traces : List A) (n m : ℕ) → AreSoMany Refutes traces n → AreSoMany HaveBoth traces m → ((0 < n) × (100 * n ≤ m)) ↔ FewRefute Refutes HaveBoth traces
few_means Refutes HaveBoth traces n m refute_are both_are = (
  (λ h. record { refuting = n; all = m; refute = refute_are; have_both = both_are; some = h.0; few = h.1 }),
  (λ h.
      let e : h.refuting ≡ n = so_many_one Refutes traces h.refuting n h.refute refute_are in
      let f : h.all ≡ m = so_many_one HaveBoth traces h.all m h.have_both both_are in
      (omega (arith, h.some, e), omega (arith, h.few, e, f))),
)

-- some trace then has both
few_together : {A : Type 0} (Refutes HaveBoth : A → Type 0) (traces : List A) → FewRefute Refutes HaveBoth traces → IsRefuted HaveBoth traces
few_together Refutes HaveBoth traces h = many_some HaveBoth traces h.all h.have_both (omega (arith, h.some, h.few))

module _ (told : Told) (choice : Choice) (kept : List Kept) (bytes : List ℕ) (text : IsEvidenceText choice kept bytes) where
  abbrev NearOrder : TwoNames → Type 0
  NearOrder pair = IsNearlyOrder kept pair × NamesMeet choice.least kept pair

  abbrev NearExclusion : TwoNames → Type 0
  NearExclusion pair = IsNearlyExclusion kept pair × NamesMeet choice.least kept pair

  abbrev NearPipe : TwoTasks → Type 0
  NearPipe pair = IsNearlyPipe kept pair × TasksMeet choice.least kept pair

  module _ (i j : ℕ) (a b : SegmentName) (ai : slice_get text.names i ≡ Some a) (bj : slice_get text.names j ≡ Some b) where
    abbrev met : Between
    met = text.between i j

    few_early : ((0 < met.early) × (100 * met.early ≤ met.traces)) ↔ FewRefute (RefutesBefore by_kept a b) (RefutesApart by_kept a b) kept
    few_early = let c = counts told choice kept bytes text i j a b ai bj in few_means (RefutesBefore by_kept a b) (RefutesApart by_kept a b) kept met.early met.traces c.early c.have_both

    few_both : ((0 < met.both) × (100 * met.both ≤ met.traces)) ↔ FewRefute (RefutesExclusive by_kept a b) (RefutesApart by_kept a b) kept
    few_both = let c = counts told choice kept bytes text i j a b ai bj in few_means (RefutesExclusive by_kept a b) (RefutesApart by_kept a b) kept met.both met.traces c.both c.have_both

    near_order_means : (((i ≢ j) × ((0 < met.early) × (100 * met.early ≤ met.traces))) × (choice.least ≤ met.traces)) ↔ NearOrder (a, b)
    near_order_means =
        let d = two_differ told choice kept bytes text i j a b ai bj in
        let m = meet_tells told choice kept bytes text i j a b ai bj in (
          (λ h. ((d.0 h.0.0, few_early.0 h.0.1), m.0 h.1)),
          (λ h. ((d.1 h.0.0, few_early.1 h.0.1), m.1 h.1)),
        )

    near_exclusion_means : (((i < j) × ((0 < met.both) × (100 * met.both ≤ met.traces))) × (choice.least ≤ met.traces)) ↔ NearExclusion (a, b)
    near_exclusion_means =
        let d = two_rise told choice kept bytes text i j a b ai bj in
        let m = meet_tells told choice kept bytes text i j a b ai bj in (
          (λ h. ((d.0 h.0.0, few_both.0 h.0.1), m.0 h.1)),
          (λ h. ((d.1 h.0.0, few_both.1 h.0.1), m.1 h.1)),
        )

  module _ (i j : ℕ) (t u : List ℕ) (ti : slice_get text.tasks i ≡ Some t) (uj : slice_get text.tasks j ≡ Some u) where
    abbrev share : Sharing
    share = text.sharing i j

    few_pipe : ((0 < share.refuted) × (100 * share.refuted ≤ share.traces)) ↔ FewRefute (RefutesPipe by_kept t u) (RefutesUnshared by_kept t u) kept
    few_pipe = few_means (RefutesPipe by_kept t u) (RefutesUnshared by_kept t u) kept share.refuted share.traces (refute told choice kept bytes text i j t u ti uj) (have_both told choice kept bytes text i j t u ti uj)

    near_pipe_means : (((i ≢ j) × ((0 < share.refuted) × (100 * share.refuted ≤ share.traces))) × (choice.least ≤ share.traces)) ↔ NearPipe (t, u)
    near_pipe_means =
        let d = tasks_two told choice kept bytes text i j t u ti uj in
        let m = tasks_meet told choice kept bytes text i j t u ti uj in (
          (λ h. ((d.0 h.0.0, few_pipe.0 h.0.1), m.0 h.1)),
          (λ h. ((d.1 h.0.0, few_pipe.1 h.0.1), m.1 h.1)),
        )

pub near_orders : Told → NearlyOrderRowsAreFew
near_orders told choice kept bytes text =
    names_told told choice kept bytes text is_nearly_order (NearOrder told choice kept bytes text)
    (listed_tells between_traces choice.least text.between is_nearly_order text.names (λ i j. (i ≢ j) × ((0 < (text.between i j).early) × (100 * (text.between i j).early ≤ (text.between i j).traces)))
    (λ i j. nearly_order_tells i j (text.between i j)) (NearOrder told choice kept bytes text) (near_order_means told choice kept bytes text))
    (λ p h. few_together (RefutesBefore by_kept p.0 p.1) (RefutesApart by_kept p.0 p.1) kept h.0.1) text.rows.nearly_orders (names_rows told choice kept bytes text is_nearly_order text.rows.nearly_orders text.are.nearly_orders)

pub near_exclusions : Told → NearlyExclusionRowsAreFew
near_exclusions told choice kept bytes text =
    names_told told choice kept bytes text is_nearly_exclusion (NearExclusion told choice kept bytes text)
    (listed_tells between_traces choice.least text.between is_nearly_exclusion text.names (λ i j. (i < j) × ((0 < (text.between i j).both) × (100 * (text.between i j).both ≤ (text.between i j).traces)))
    (λ i j. nearly_exclusion_tells i j (text.between i j)) (NearExclusion told choice kept bytes text) (near_exclusion_means told choice kept bytes text))
    (λ p h. few_together (RefutesExclusive by_kept p.0 p.1) (RefutesApart by_kept p.0 p.1) kept h.0.1) text.rows.nearly_exclusions (names_rows told choice kept bytes text is_nearly_exclusion text.rows.nearly_exclusions text.are.nearly_exclusions)

pub near_pipes : Told → NearlyPipeRowsAreFew
near_pipes told choice kept bytes text =
    tasks_told told choice kept bytes text is_nearly_pipe (NearPipe told choice kept bytes text)
    (listed_tells sharing_traces choice.least text.sharing is_nearly_pipe text.tasks (λ i j. (i ≢ j) × ((0 < (text.sharing i j).refuted) × (100 * (text.sharing i j).refuted ≤ (text.sharing i j).traces)))
    (λ i j. nearly_pipe_tells i j (text.sharing i j)) (NearPipe told choice kept bytes text) (near_pipe_means told choice kept bytes text))
    (λ p h. few_together (RefutesPipe by_kept p.0 p.1) (RefutesUnshared by_kept p.0 p.1) kept h.0.1) text.rows.nearly_pipes (tasks_rows told choice kept bytes text is_nearly_pipe text.rows.nearly_pipes text.are.nearly_pipes)
