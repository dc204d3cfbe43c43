-- Runs of stays of one task, one after another, and the groups that they are once they are sorted.
use Rattle.std.proofs.Common.{◌≡◌, ◌≢◌, ℕ, ◌+◌, ◌-◌, ◌<◌, ◌≤◌, ◌==◌, Bool, List, [], ◌∷◌, ◌++◌, length, get_or, take, drop, All, IsPermutation, slice_index_or, sym, ap, ◌∙◌, subst, ⊎_elim, arith}
use Rattle.std.proofs.lemmas.Bool.{cases_eq, cases_lt, cases_order, eqb-false, eq-eqb, ne_eqb}
use Rattle.std.proofs.lemmas.List.{get_or_default, get_or-take, get_or-drop, length-take-le, length-drop}
use Rattle.std.proofs.lemmas.List.Elements.{All-push, All-weaker, All-contains, Contains-get_or}
use Rattle.std.proofs.lemmas.List.Quantifiers.{all_pairs_push}
use Rattle.std.proofs.lemmas.List.Sorted.{All-permutation, Contains-permutation}
use Rattle.std.proofs.lemmas.Map.Keys.{apart_from_distinct, IsDistinct-from_apart, IsDistinct-IsPermutation}
use Rattle.std.proofs.lemmas.Option.{slice_get_within, get_or_from_slice_get}
use Rattle.std.specs.List.{Contains}
use Rattle.std.specs.List.Sorted.{IsNonDecreasingBy}
use Rattle.pipeline_tests.specs.declared.groups.TaskStays.{TaskStays}
use Rattle.pipeline_tests.specs.declared.stays.Stay.{Stay}
use Rattle.pipeline_tests.specs.inner.Groups.{AreGroups, AreRuns, HasTask, IsGroup, IsRun, IsRunEnd, TasksDiffer, TasksRise}
use Rattle.pipeline_tests.specs.inner.Stays.{IsStay, AreStays, StaysRise, StaysStandTogether}
use Rattle.pipeline_tests.proofs.TaskLemmas.{no_task, task_kept, task_last, task_cases}
use Rattle.trace_types.specs.NamedSegments.{number_of_task}
use Rattle.trace_types.specs.Parts.{by_number}
use Rattle.trace_types.specs.Pipelines.{HandlesAt}
use Rattle.trace_types.specs.declared.named_segment.NamedSegment.{NamedSegment}
use Rattle.trace_types.specs.declared.named_trace.NamedTrace.{NamedTrace}

-- the stays of a task stand together, as its segments do
pub stand_together : (trace : NamedTrace) (stays : List Stay) → AreStays trace (length trace.segments) stays → StaysStandTogether stays
stand_together trace stays a i j k d less more l same =
    let x : Stay = get_or stays i d in
    let y : Stay = get_or stays j d in
    let z : Stay = get_or stays k d in
    let p : HandlesAt by_number trace x.task x.element x.begin x.first = (a.sound i d (omega arith)).starts.handles in
    let q : HandlesAt by_number trace y.task y.element y.begin y.first = (a.sound j d (omega arith)).starts.handles in
    let r : HandlesAt by_number trace z.task z.element z.begin z.first = (a.sound k d l).starts.handles in
    let e : NamedSegment = z.first in
    let one : get_or trace.segments x.begin e ≡ x.first = get_or_from_slice_get trace.segments x.begin x.first e p.segment in
    let two : get_or trace.segments y.begin e ≡ y.first = get_or_from_slice_get trace.segments y.begin y.first e q.segment in
    let three : get_or trace.segments z.begin e ≡ z.first = get_or_from_slice_get trace.segments z.begin z.first e r.segment in
    let between = trace.together x.begin y.begin z.begin e (a.rise i j d less (omega arith)) (a.rise j k d more l) (slice_get_within trace.segments z.begin z.first r.segment)
    (ap number_of_task one ∙ p.task ∙ same ∙ sym r.task ∙ sym (ap number_of_task three)) in
    sym q.task ∙ sym (ap number_of_task two) ∙ between ∙ ap number_of_task three ∙ r.task

pub no_runs : (stays : List Stay) → AreRuns stays 0 []
no_runs stays = record {
  each = λ k d l. absurd (omega arith);
  differ = λ i j d l h. absurd (omega arith);
  before = λ k d l. absurd (omega arith);
  behind = λ k d l h t. no_task (get_or stays k d).task t;
}

-- ---- one more run

module _ (stays : List Stay) (stand : StaysStandTogether stays) (from to : ℕ) (y : Stay) (l : from < length stays) (at : y ≡ get_or stays from y) (e : IsRunEnd stays from to) (g : TaskStays) (own : g.task ≡ y.task) (is : g.stays.now ≡ take (to - from) (drop from stays)) where
  abbrev run : List Stay
  run = take (to - from) (drop from stays)

  long : length run ≡ to - from
  long = let m = e.more in let w = e.within in let d = length-drop from stays in length-take-le (to - from) (drop from stays) (omega arith)

  at_run : (k : ℕ) (d : Stay) → k < to - from → get_or run k d ≡ get_or stays (from + k) d
  at_run k d h = get_or-take (to - from) (drop from stays) k d h ∙ get_or-drop from stays k d

  first_task : (d : Stay) → (get_or stays from d).task ≡ g.task
  first_task d = ap (λ (x : Stay). x.task) (get_or_default stays from d y l ∙ sym at) ∙ sym own

  of_run : (k : ℕ) (d : Stay) → from ≤ k → k < to → (get_or stays k d).task ≡ g.task
  of_run k d h m = e.same k d h m ∙ first_task d

  -- no stay behind the run is of its task
  not_behind : (k : ℕ) (d : Stay) → to ≤ k → k < length stays → (get_or stays k d).task ≡ g.task → ⊥
  not_behind k d h m t = let more = e.more in ⊎_elim
      (λ (q : to ≡ k). e.next d (omega arith) (ap (λ (i : ℕ). (get_or stays i d).task) q ∙ t ∙ sym (first_task d)))
      (⊎_elim
      (λ (q : to < k). e.next d (omega arith) (stand from to k d more q m (first_task d ∙ sym t) ∙ t ∙ sym (first_task d)))
      (λ (q : k < to). absurd (omega arith)))
      (cases_order to k)

  module _ (old : List TaskStays) (a : AreRuns stays from old) where
    -- no group so far is of its task
    new_task : HasTask old g.task → ⊥
    new_task t = a.behind from y (omega arith) l (subst (HasTask old) (sym (first_task y)) t)

    is_run : IsRun stays g
    is_run = let more = e.more in let within = e.within in record {
      sound = λ s c. let o = subst (λ (xs : List Stay). Contains xs s) is c in
          let h : o.0 < to - from = let b : o.0 < length run = o.1 in omega (arith, long) in
          let there : get_or stays (from + o.0) s ≡ s = sym (at_run o.0 s h) ∙ o.2 in
          ((from + o.0, omega arith, there), ap (λ (x : Stay). x.task) (sym there) ∙ of_run (from + o.0) s (omega arith) (omega arith));
      complete = λ s c t. subst (λ (xs : List Stay). Contains xs s) (sym is) (
          let task_at : (get_or stays c.0 s).task ≡ g.task = ap (λ (x : Stay). x.task) c.2 ∙ t in ⊎_elim
          (λ (q : c.0 < from). absurd (new_task (subst (HasTask old) task_at (a.before c.0 s q))))
          (λ (q : from ≤ c.0). ⊎_elim
          (λ (p : c.0 < to). let k : ℕ = c.0 - from in let back : from + k ≡ c.0 = omega arith in
          let r : Contains run s = (k, omega (arith, long), at_run k s (omega arith) ∙ ap (λ (i : ℕ). get_or stays i s) back ∙ c.2) in r)
          (λ (p : to ≤ c.0). absurd (not_behind c.0 s p c.1 task_at))
          (cases_lt c.0 to))
          (cases_lt c.0 from));
      rise = λ r. subst StaysRise (sym is) (λ i j d h m.
          let b : j < to - from = omega (arith, long) in
          let p = at_run i d (omega arith) in let q = at_run j d b in
          let u : (get_or stays (from + i) d).begin < (get_or stays (from + j) d).begin = r (from + i) (from + j) d (omega arith) (omega arith) in
          let v = ap (λ (x : Stay). x.begin) p in let w = ap (λ (x : Stay). x.begin) q in omega arith);
      some = (y, (from, l, sym at), sym own);
    }

    pub runs_more : AreRuns stays to (old ++ g ∷ [])
    runs_more = let more = e.more in record {
      each = All-push (IsRun stays) old g a.each is_run;
      differ = all_pairs_push (λ (x z : TaskStays). x.task ≢ z.task) old g a.differ (λ k d h t. new_task (get_or old k d, (k, h, get_or_default old k (get_or old k d) d h), t));
      before = λ k d h. ⊎_elim
          (λ (q : k < from). task_kept old g (get_or stays k d).task (a.before k d q))
          (λ (q : from ≤ k). task_last old g (get_or stays k d).task (of_run k d q h))
          (cases_lt k from);
      behind = λ k d h m t. ⊎_elim
          (λ (o : HasTask old (get_or stays k d).task). a.behind k d (omega arith) m o)
          (λ (o : (get_or stays k d).task ≡ g.task). not_behind k d h m o)
          (task_cases old g (get_or stays k d).task t);
    }

-- the list with one more run
pub runs_pushed : (stays : List Stay) → StaysStandTogether stays → (from to : ℕ) (y : Stay) → from < length stays → y ≡ get_or stays from y → IsRunEnd stays from to
    → (old pushed new : List TaskStays) (g : TaskStays) → AreRuns stays from old → pushed ≡ old → new ≡ pushed ++ g ∷ []
    → g.task ≡ y.task → g.stays.now ≡ take (to - from) (drop from stays) → AreRuns stays to new
runs_pushed stays stand from to y l at e old pushed new g a same added own is =
    subst (AreRuns stays to) (sym (added ∙ ap (λ (xs : List TaskStays). xs ++ g ∷ []) same)) (runs_more stays stand from to y l at e g own is old a)

-- ---- all runs, sorted

tasks_rise : (xs ys : List TaskStays) → TasksDiffer xs → IsPermutation xs ys → IsNonDecreasingBy (λ (g : TaskStays). g.task) ys → TasksRise ys
tasks_rise xs ys differ p up i j d l h =
    let test : TaskStays → TaskStays → Bool = λ (s : TaskStays) (t : TaskStays). s.task == t.task in
    let flips : (s t : TaskStays) → test s t ≡ test t s = λ s t. ⊎_elim (λ (e : s.task ≡ t.task). eq-eqb s.task t.task e ∙ sym (eq-eqb t.task s.task (sym e))) (λ (e : s.task ≡ t.task → ⊥). ne_eqb s.task t.task e ∙ sym (ne_eqb t.task s.task (λ f. e (sym f)))) (cases_eq s.task t.task) in
    let a = apart_from_distinct test ys i j d (IsDistinct-IsPermutation test flips xs ys p (IsDistinct-from_apart test xs (λ m n e k o. ne_eqb (slice_index_or xs m e).task (slice_index_or xs n e).task (differ m n e k o)))) l h in
    let n = eqb-false (slice_index_or ys i d).task (slice_index_or ys j d).task a in
    let u = up i j d (omega arith) h in omega (arith, u, n)

module _ (trace : NamedTrace) (stays : List Stay) (a : AreStays trace (length trace.segments) stays) where
  run_is_group : (g : TaskStays) → IsRun stays g → IsGroup trace g
  run_is_group g r = record {
    small = let s : Stay = r.some.0 in let i : IsStay trace (length trace.segments) s = All-contains (IsStay trace (length trace.segments)) stays s a.sound r.some.1 in
        let below = s.first.task_below in let p : s.first.task ≡ s.task = i.starts.handles.task in let q : s.task ≡ g.task = r.some.2 in omega arith;
    stays = λ s c. All-contains (IsStay trace (length trace.segments)) stays s a.sound (r.sound s c).0;
    own = λ s c. (r.sound s c).1;
    complete = λ e k s h. let c = a.complete k g.task e s (slice_get_within trace.segments k s h.segment) h in (c.0, r.complete c.0 c.1 c.2, c.3);
    rise = r.rise a.rise;
  }

  pub sorted_runs : (runs groups : List TaskStays) → AreRuns stays (length stays) runs → IsPermutation runs groups → IsNonDecreasingBy (λ (g : TaskStays). g.task) groups → AreGroups trace 64 groups
  sorted_runs runs groups r p up =
      let each : All (IsGroup trace) groups = All-weaker (IsRun stays) (IsGroup trace) run_is_group groups (All-permutation (IsRun stays) runs groups p r.each) in record {
        each = each;
        rise = tasks_rise runs groups r.differ p up;
        less = λ k d l. (each k d l).small;
        complete = λ t e k s l h.
            let c = a.complete k t e s (slice_get_within trace.segments k s h.segment) h in
            let x : Stay = c.0 in let o = c.1 in
            let at : (get_or stays o.0 x).task ≡ t = ap (λ (y : Stay). y.task) o.2 ∙ c.2 in
            let g = subst (HasTask runs) at (r.before o.0 x o.1) in
            (g.0, Contains-permutation runs groups g.0 p g.1, g.2);
      }
