-- Numbers of lines: which pairs they are of, and that there is one number.
use Rattle.std.proofs.Common.{◌≡◌, ◌⊎◌, ℕ, ◌<◌, List, All, ap, ◌∙◌, subst, ⊎_elim, inl, inr, arith}
use Rattle.std.specs.Ordering.{nat_cmp}
use Rattle.std.proofs.lemmas.Bool.{cases_order}
use Rattle.std.proofs.lemmas.List.Elements.{All-contains}
use Rattle.std.proofs.lemmas.Option.{get_or_from_slice_get, slice_get_within}
use Rattle.trace_types.specs.declared.named_segment.NamedSegment.{NamedSegment}
use Rattle.trace_types.specs.declared.named_trace.NamedTrace.{NamedTrace}
use Rattle.trace_types.specs.Listing.{AreExactly, CountsDistinct}
use Rattle.trace_types.specs.Parts.{by_number}
use Rattle.trace_types.specs.Pipelines.{HandlesAt, RefutesUnshared}
use Rattle.trace_types.specs.Refuting.{RefutesApart}
use Rattle.trace_types.specs.Relations.{ExcludesUnordered, HappensBefore}
use Rattle.trace_types.specs.Surviving.{IsRefuted}
use Rattle.refute_tests.specs.Clearing.{HaveNamesBelow}
use Rattle.trace_types.proofs.ComparingLemmas.{less_means, less_to}
use Rattle.model_meet.specs.CountLaws.{CountsAreOne, HaveTasksBelow, NoLineIsLeftOut, NumbersAreOrdered}
use Rattle.model_meet.specs.Counting.{CountsPairs}
use Rattle.trace_rules.specs.Pipes.{IsPipeline}
use Rattle.model_meet.specs.declared.counts.Counts.{Counts}
use Rattle.model_meet.proofs.CountingLemmas.{exactly_alike}

-- ---- numbers are ordered
pub numbers_are_ordered : NumbersAreOrdered
numbers_are_ordered limit = record {
  one_is_less = λ a b x y differ. ⊎_elim
      (λ (e : a ≡ b). absurd (differ e))
      (λ (h : (a < b) ⊎ (b < a)). ⊎_elim (λ (l : a < b). inl (less_to a b l)) (λ (l : b < a). inr (less_to b a l)) h)
      (cases_order a b);
  not_both = λ a b x y e f. let l = less_means a b e in let m = less_means b a f in absurd (omega arith);
}

-- ---- one number
exactly_one : {X : Type 0} (P : X → Type 0) (m n : ℕ) → ((i j : ℕ) (xs : List X) → CountsDistinct i xs → CountsDistinct j xs → i ≡ j) → AreExactly P m → AreExactly P n → m ≡ n
exactly_one P m n one a b =
    one m n a.all
    (record { all = a.all; differ = a.differ; exactly = λ x. ((λ c. c), (λ c. c)); count = a.count })
    (record {
      all = b.all;
      differ = b.differ;
      exactly = λ x. ((λ c. (a.exactly x).1 ((b.exactly x).0 c)), (λ c. (b.exactly x).1 ((a.exactly x).0 c)));
      count = b.count;
    })

same_counts : (c d : Counts) → c.hb ≡ d.hb → c.mx ≡ d.mx → c.pipe ≡ d.pipe → c ≡ d
same_counts c d e f g =
    let first : ℕ → Counts = λ n. record { hb = n; mx = c.mx; pipe = c.pipe } in
    let second : ℕ → Counts = λ n. record { hb = d.hb; mx = n; pipe = c.pipe } in
    let third : ℕ → Counts = λ n. record { hb = d.hb; mx = d.mx; pipe = n } in
    ap first e ∙ ap second f ∙ ap third g

pub counts_are_one : NumbersAreOrdered → ((i j : ℕ) (xs : List (ℕ × ℕ)) → CountsDistinct i xs → CountsDistinct j xs → i ≡ j) → CountsAreOne
counts_are_one ordered one traces names tasks c d a b =
    same_counts c d
    (exactly_one _ c.hb d.hb one a.hb b.hb)
    (exactly_one _ c.mx d.mx one (a.mx nat_cmp (ordered names)) (b.mx nat_cmp (ordered names)))
    (exactly_one _ c.pipe d.pipe one a.pipe b.pipe)

-- ---- no line is left out
module _ (traces : List NamedTrace) (limit : ℕ) where
  names_below : All (HaveNamesBelow limit) traces → (a b : ℕ) → IsRefuted (RefutesApart by_number a b) traces → (a < limit) × (b < limit)
  names_below few a b h =
      let trace : NamedTrace = h.1 in
      let here : HaveNamesBelow limit trace = All-contains (HaveNamesBelow limit) traces trace few (h.0, h.2, h.3) in
      let both = h.4 in
      let s : both.0.name < limit = All-contains (λ (s : NamedSegment). s.name < limit) trace.segments both.0 here both.2 in
      let t : both.1.name < limit = All-contains (λ (s : NamedSegment). s.name < limit) trace.segments both.1 here both.3 in
      (subst (λ (k : ℕ). k < limit) both.4 s, subst (λ (k : ℕ). k < limit) both.5 t)

  task_below : (trace : NamedTrace) → HaveTasksBelow limit trace → (t e k : ℕ) (s : NamedSegment) → HandlesAt by_number trace t e k s → t < limit
  task_below trace few t e k s h =
      let at = get_or_from_slice_get trace.segments k s s h.segment in
      let inside = slice_get_within trace.segments k s h.segment in
      let low : s.task < limit = All-contains (λ (s : NamedSegment). s.task < limit) trace.segments s few (k, inside, at) in
      subst (λ (v : ℕ). v < limit) h.task low

  tasks_below : All (HaveTasksBelow limit) traces → (t u : ℕ) → IsRefuted (RefutesUnshared by_number t u) traces → (t < limit) × (u < limit)
  tasks_below few t u h =
      let trace : NamedTrace = h.1 in
      let here : HaveTasksBelow limit trace = All-contains (HaveTasksBelow limit) traces trace few (h.0, h.2, h.3) in
      let both = h.4 in
      (task_below trace here t both.element both.k both.s both.one, task_below trace here u both.element both.l both.r both.other)

-- where the relation holds below the limit alone
all_pairs : (limit n : ℕ) (R : ℕ → ℕ → Type 0) → ((a b : ℕ) → R a b → (a < limit) × (b < limit)) → CountsPairs limit R n → AreExactly (λ (pair : ℕ × ℕ). R pair.0 pair.1) n
all_pairs limit n R below a =
    exactly_alike (λ (pair : ℕ × ℕ). (pair.0 < limit) × (pair.1 < limit) × R pair.0 pair.1) (λ (pair : ℕ × ℕ). R pair.0 pair.1) n
    (λ pair. ((λ h. h.2), (λ r. let l = below pair.0 pair.1 r in (l.0, l.1, r)))) a

pub no_line_is_left_out : NoLineIsLeftOut
no_line_is_left_out traces names tasks counts few_names few_tasks a = record {
  hb = all_pairs names counts.hb (HappensBefore by_number traces) (λ x y h. names_below traces names few_names x y h.together) a.hb;
  mx = λ cmp order. all_pairs names counts.mx (ExcludesUnordered by_number cmp traces) (λ x y h. names_below traces names few_names x y h.together) (a.mx cmp order);
  pipe = all_pairs tasks counts.pipe (IsPipeline by_number traces) (λ x y h. tasks_below traces tasks few_tasks x y h.shared) a.pipe;
}
