-- A catalogue that has grown keeps the numbers of its names and tasks.
use Rattle.std.proofs.Common.{◌≡◌, ◌≢◌, ℕ, suc, ◌+◌, inl, inr, Bool, true, false, not, List, [], ◌∷◌, ◌++◌, length, map, filter, All, AllPairs, Contains, refl, ap, ◌∙◌, arith}
use Rattle.std.proofs.lemmas.Bool.{cases_Bool, not_from_false}
use Rattle.std.proofs.lemmas.List.Elements.{All-weaker, filter-append, Contains-append_left}
use Rattle.std.specs.Str.{bytes_eq}
use Rattle.std.specs.List.{enumerate_from, flat_map}
use Rattle.trace_types.specs.declared.named_trace.NamedTrace.{NamedTrace}
use Rattle.trace_types.specs.declared.segment.Segment.{Segment}
use Rattle.trace_types.specs.declared.trace.Trace.{Trace}
use Rattle.trace_types.specs.Firsts.{firsts_of}
use Rattle.trace_types.specs.Parts.{by_number}
use Rattle.trace_types.specs.Renaming.{IsSegmentRenamed}
use Rattle.trace_types.specs.Segments.{SegmentName, name_of, task_of}
use Rattle.segment_names.specs.Known.{Known, same_name, with_traces}
use Rattle.segment_names.specs.Limits.{IsKept}
use Rattle.session_rules.specs.KeptTraces.{Kept, by_kept}
use Rattle.trace_types.proofs.ComparingLemmas.{text_means}
use Rattle.segment_names.proofs.TextLemmas.{name_means}
use Rattle.trace_types.proofs.MatchLemmas.{zip_map}
use Rattle.day_partitions.proofs.FilterLemmas.{filter_all}
use Rattle.book_laws.specs.Shown.{AreShown, IsShown}

module _ {X : Type 0} (same : X → X → Bool) (means : (x y : X) → same x y ≡ true → x ≡ y) where
  differ : (x y : X) → x ≢ y → same x y ≡ false
  differ x y other = elim (cases_Bool (same x y)) [
    | inl good ↦ absurd (other (means x y good))
    | inr bad ↦ bad
  ]

  -- what stands once in a list keeps its place where more is noted
  pub firsts_prefix : (xs ys : List X) → AllPairs (λ x y. x ≢ y) xs → (more : List X) × (firsts_of same (xs ++ ys) ≡ xs ++ more)
  firsts_prefix [] ys p = (firsts_of same ys, refl)
  firsts_prefix (x ∷ xs) ys p =
      let rest = firsts_prefix xs ys (λ i j d l m. p (suc i) (suc j) d (omega (arith, l)) (omega (arith, m))) in
      let others : All (λ y. x ≢ y) xs = λ k d l. p 0 (suc k) d (omega arith) (omega (arith, l)) in
      let test : X → Bool = λ y. not (same x y) in
      let stay : filter test xs ≡ xs = filter_all test xs (All-weaker (λ y. x ≢ y) (λ y. test y ≡ true) (λ y o. not_from_false (same x y) (differ x y o)) xs others) in
      (filter test rest.0, ap (λ l. x ∷ filter test l) rest.1 ∙ ap (λ l. x ∷ l) (filter-append test xs rest.0) ∙ ap (λ l. x ∷ (l ++ filter test rest.0)) stay)

enumerate_append : {X : Type 0} (n : ℕ) (xs ys : List X) → enumerate_from n (xs ++ ys) ≡ enumerate_from n xs ++ enumerate_from (n + length xs) ys
enumerate_append n [] ys = ap (λ m. enumerate_from m ys) (let z : n ≡ n + 0 = omega arith in z)
enumerate_append n (x ∷ xs) ys = ap (λ l. (n, x) ∷ l) (enumerate_append (n + 1) xs ys ∙ ap (λ m. enumerate_from (n + 1) xs ++ enumerate_from m ys) (let z : n + 1 + length xs ≡ n + suc (length xs) = omega arith in z))

still_matched : {X : Type 0} (xs more new : List X) (m : ℕ × X) → new ≡ xs ++ more → Contains (enumerate_from 0 xs) m → Contains (enumerate_from 0 new) m
still_matched xs more new m e c = rw (e, enumerate_append 0 xs more) (Contains-append_left (enumerate_from 0 xs) (enumerate_from (0 + length xs) more) m c)

grown_trace : (known new : Known) (more_names : List SegmentName) (more_tasks : List (List ℕ)) → new.names ≡ known.names ++ more_names → new.tasks ≡ known.tasks ++ more_tasks
    → (named : NamedTrace) (k : Kept) → IsShown known named k → IsShown new named k
grown_trace known new more_names more_tasks en et named k h = record {
  renamed = record {
    grace = h.renamed.grace;
    elements = h.renamed.elements;
    one_to_one = h.renamed.one_to_one;
    segments = zip_map (IsSegmentRenamed by_number by_kept (enumerate_from 0 known.names) (enumerate_from 0 known.tasks) h.renamed.elements) (IsSegmentRenamed by_number by_kept (enumerate_from 0 new.names) (enumerate_from 0 new.tasks) h.renamed.elements)
        (λ s x r. record {
          name = still_matched known.names more_names new.names _ en r.name;
          task = still_matched known.tasks more_tasks new.tasks _ et r.task;
          element = r.element;
          start = r.start;
          end = r.end;
        }) named.segments k.trace.segments h.renamed.segments;
  };
  request = h.request;
  day = h.day;
  latency = h.latency;
}

pub grown : (known : Known) (more : List Trace) (named : List NamedTrace) (kept : List Kept) → IsKept known → AreShown known named kept → AreShown (with_traces known more) named kept
grown known more named kept h shown =
    let segments : List Segment = flat_map (λ (t : Trace). t.segments) more in
    let names = firsts_prefix same_name name_means known.names (map name_of segments) h.names_differ in
    let tasks = firsts_prefix bytes_eq text_means known.tasks (map task_of segments) h.tasks_differ in
    zip_map (IsShown known) (IsShown (with_traces known more)) (grown_trace known (with_traces known more) names.0 tasks.0 names.1 tasks.1) named kept shown
