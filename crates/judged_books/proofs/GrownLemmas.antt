-- A catalogue that has grown begins as it did.
use Rattle.std.proofs.Common.{◌≡◌, ◌≢◌, suc, inl, inr, Bool, true, false, not, List, [], ◌∷◌, ◌++◌, map, filter, All, AllPairs, refl, ap, ◌∙◌, arith}
use Rattle.std.proofs.lemmas.Bool.{cases_Bool, not_from_false}
use Rattle.std.proofs.lemmas.List.Elements.{All-weaker, filter-append}
use Rattle.day_partitions.proofs.FilterLemmas.{filter_all}
use Rattle.trace_types.specs.Firsts.{firsts_of}
use Rattle.std.specs.List.{flat_map}
use Rattle.std.specs.Str.{bytes_eq}
use Rattle.std.proofs.lemmas.List.{append_assoc}
use Rattle.segment_names.proofs.TextLemmas.{name_means}
use Rattle.segment_names.specs.Known.{same_name}
use Rattle.trace_types.proofs.ComparingLemmas.{text_means}
use Rattle.trace_types.specs.Segments.{name_of, task_of}
use Rattle.trace_types.specs.declared.segment.Segment.{Segment}
use Rattle.trace_types.specs.declared.trace.Trace.{Trace}
use Rattle.judged_books.specs.JudgedLaws.{GrownBeginsAlike}

module _ {X : Type 0} (same : X → X → Bool) (means : (x y : X) → same x y ≡ true → x ≡ y) where
  differ : (x y : X) → x ≢ y → same x y ≡ false
  differ x y other = elim (cases_Bool (same x y)) [
    | inl good ↦ absurd (other (means x y good))
    | inr bad ↦ bad
  ]

  -- what stands once in a list keeps its place where more is noted
  firsts_prefix : (xs ys : List X) → AllPairs (λ x y. x ≢ y) xs → (more : List X) × (firsts_of same (xs ++ ys) ≡ xs ++ more)
  firsts_prefix [] ys p = (firsts_of same ys, refl)
  firsts_prefix (x ∷ xs) ys p =
      let rest = firsts_prefix xs ys (λ i j d l m. p (suc i) (suc j) d (omega (arith, l)) (omega (arith, m))) in
      let others : All (λ y. x ≢ y) xs = λ k d l. p 0 (suc k) d (omega arith) (omega (arith, l)) in
      let test : X → Bool = λ y. not (same x y) in
      let stay : filter test xs ≡ xs = filter_all test xs (All-weaker (λ y. x ≢ y) (λ y. test y ≡ true) (λ y o. not_from_false (same x y) (differ x y o)) xs others) in
      (filter test rest.0, ap (λ l. x ∷ filter test l) rest.1 ∙ ap (λ l. x ∷ l) (filter-append test xs rest.0) ∙ ap (λ l. x ∷ (l ++ filter test rest.0)) stay)

pub grown_begins : GrownBeginsAlike
grown_begins given known more kept h =
    let segments : List Segment = flat_map (λ (t : Trace). t.segments) more in
    let names = firsts_prefix same_name name_means known.names (map name_of segments) kept.names_differ in
    let tasks = firsts_prefix bytes_eq text_means known.tasks (map task_of segments) kept.tasks_differ in
    record {
      more_names = h.more_names ++ names.0;
      more_tasks = h.more_tasks ++ tasks.0;
      names = names.1 ∙ ap (λ l. l ++ names.0) h.names ∙ append_assoc given.names h.more_names names.0;
      tasks = tasks.1 ∙ ap (λ l. l ++ tasks.0) h.tasks ∙ append_assoc given.tasks h.more_tasks tasks.0;
    }
