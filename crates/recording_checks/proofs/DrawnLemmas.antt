-- Facts on segments that tests draw.
use Rattle.std.proofs.Common.{◌≡◌, ◌≢◌, ◌∙◌, ℕ, zero, suc, ◌+◌, ◌-◌, ◌<◌, ◌≤◌, nat_eq, List, [], ◌∷◌, ◌++◌, length, get_or, slice_get, Some, None, refl, sym, ap, subst, inl, inr, ⊎_elim, arith}
use Rattle.std.proofs.lemmas.Bool.{cases_eq}
use Rattle.std.proofs.lemmas.List.{get_or_push, get_or_append_left, length_push}
use Rattle.std.proofs.lemmas.List.Elements.{filter_map-append}
use Rattle.std.proofs.lemmas.List.Quantifiers.{all_pairs_push}
use Rattle.std.proofs.lemmas.Option.{get_or_from_slice_get, slice_get-get_or}
use Rattle.std.specs.List.{AllPairs, filter_map}
use Rattle.trace_types.specs.Firsts.{firsts_of}
use Rattle.trace_types.specs.NamedSegments.{number_of_name, number_of_task, number_of_element, named_start, named_end}
use Rattle.trace_types.specs.SegmentLists.{NamesDiffer, TasksStandTogether, JoinInTasks, ElementsCountUp}
use Rattle.trace_types.specs.declared.named_segment.NamedSegment.{NamedSegment}
use Rattle.recording_checks.specs.inner.Drawn.{AreDrawn, Follows}

-- no segment has an element where a list has none and the next one neither
plain_push : (xs : List NamedSegment) (s : NamedSegment) → filter_map number_of_element xs ≡ [] → s.element ≡ None → filter_map number_of_element (xs ++ s ∷ []) ≡ []
plain_push xs s none e =
    let one : filter_map number_of_element (s ∷ []) ≡ [] = rw e refl in
    filter_map-append number_of_element xs (s ∷ []) ∙ ap (λ (l : List ℕ). l ++ filter_map number_of_element (s ∷ [])) none ∙ one

module _ (xs : List NamedSegment) (s : NamedSegment) where
  -- neighbours join where those of the list do, and its last one and the next
  joined_push : JoinInTasks number_of_task named_start named_end xs
      → ((k : ℕ) (d : NamedSegment) → k + 1 ≡ length xs → (get_or xs k d).task ≡ s.task → (get_or xs k d).end ≡ s.start)
      → JoinInTasks number_of_task named_start named_end (xs ++ s ∷ [])
  joined_push joined last k d h e =
      let long : length (xs ++ s ∷ []) ≡ length xs + 1 = length_push xs s in
      let here : get_or (xs ++ s ∷ []) k d ≡ get_or xs k d = get_or_append_left xs (s ∷ []) d k (omega arith) in
      ⊎_elim
      (λ (z : k + 1 ≡ length xs). let next : get_or (xs ++ s ∷ []) (k + 1) d ≡ s = get_or_push xs s d (k + 1) (sym z) in
      ap named_end here ∙ last k d z (sym (ap number_of_task here) ∙ e ∙ ap number_of_task next) ∙ sym (ap named_start next))
      (λ (z : k + 1 ≡ length xs → ⊥). let next : get_or (xs ++ s ∷ []) (k + 1) d ≡ get_or xs (k + 1) d = get_or_append_left xs (s ∷ []) d (k + 1) (omega arith) in
      ap named_end here ∙ joined k d (omega arith) (sym (ap number_of_task here) ∙ e ∙ ap number_of_task next) ∙ sym (ap named_start next))
      (cases_eq (k + 1) (length xs))

  drawn_push : AreDrawn xs
      → ((k : ℕ) (d : NamedSegment) → k < length xs → (get_or xs k d).name < s.name)
      → ((k : ℕ) (d : NamedSegment) → k < length xs → (get_or xs k d).task ≤ s.task)
      → ((k : ℕ) (d : NamedSegment) → k + 1 ≡ length xs → (get_or xs k d).task ≡ s.task → (get_or xs k d).end ≡ s.start)
      → s.element ≡ None → AreDrawn (xs ++ s ∷ [])
  drawn_push h name task join e = record {
    names = all_pairs_push (λ (u v : NamedSegment). u.name < v.name) xs s h.names name;
    tasks = all_pairs_push (λ (u v : NamedSegment). u.task ≤ v.task) xs s h.tasks task;
    joined = joined_push h.joined join;
    plain = plain_push xs s h.plain e;
  }

-- where there is no last segment, the next one is the first
pub drawn_first : (xs : List NamedSegment) (s : NamedSegment) → AreDrawn xs → None ≡ slice_get xs (length xs - 1) → s.element ≡ None → AreDrawn (xs ++ s ∷ [])
drawn_first xs s h is e =
    let empty : (k : ℕ) (d : NamedSegment) → k < length xs → ⊥ = λ k d l. let some : slice_get xs (length xs - 1) ≡ Some (get_or xs (length xs - 1) d) = slice_get-get_or xs (length xs - 1) d (omega arith) in let both : None ≡ Some (get_or xs (length xs - 1) d) = is ∙ some in cc in
    drawn_push xs s h (λ k d l. absurd (empty k d l)) (λ k d l. absurd (empty k d l)) (λ k d l _. absurd (empty k d (omega arith))) e

-- a segment that may stand behind the last one
pub drawn_next : (xs : List NamedSegment) (last s : NamedSegment) → AreDrawn xs → Some last ≡ slice_get xs (length xs - 1) → Follows last s → s.element ≡ None → AreDrawn (xs ++ s ∷ [])
drawn_next xs last s h is follows e =
    let end : (d : NamedSegment) → get_or xs (length xs - 1) d ≡ last = λ d. get_or_from_slice_get xs (length xs - 1) last d (sym is) in
    let at_end : (k : ℕ) (d : NamedSegment) → k + 1 ≡ length xs → get_or xs k d ≡ last = λ k d z. let same : k ≡ length xs - 1 = omega arith in ap (λ (n : ℕ). get_or xs n d) same ∙ end d in
    drawn_push xs s h
    (λ k d l. ⊎_elim
    (λ (z : k + 1 ≡ length xs). let same : (get_or xs k d).name ≡ last.name = ap (λ (v : NamedSegment). v.name) (at_end k d z) in let less = follows.name in omega arith)
    (λ (z : k + 1 ≡ length xs → ⊥). let same : (get_or xs (length xs - 1) d).name ≡ last.name = ap (λ (v : NamedSegment). v.name) (end d) in let less = follows.name in let rise = h.names k (length xs - 1) d (omega arith) (omega arith) in omega arith)
    (cases_eq (k + 1) (length xs)))
    (λ k d l. ⊎_elim
    (λ (z : k + 1 ≡ length xs). let same : (get_or xs k d).task ≡ last.task = ap (λ (v : NamedSegment). v.task) (at_end k d z) in let up = follows.task in omega arith)
    (λ (z : k + 1 ≡ length xs → ⊥). let same : (get_or xs (length xs - 1) d).task ≡ last.task = ap (λ (v : NamedSegment). v.task) (end d) in let up = follows.task in let rise = h.tasks k (length xs - 1) d (omega arith) (omega arith) in omega arith)
    (cases_eq (k + 1) (length xs)))
    (λ k d z t. ap named_end (at_end k d z) ∙ follows.join (sym (ap number_of_task (at_end k d z)) ∙ t))
    e

-- ---- what a trace of such segments keeps

pub names_differ : (xs : List NamedSegment) → AreDrawn xs → NamesDiffer number_of_name xs
names_differ xs h i j d l m same = let less = h.names i j d l m in let eq : (get_or xs i d).name ≡ (get_or xs j d).name = same in absurd (omega arith)

pub stand_together : (xs : List NamedSegment) → AreDrawn xs → TasksStandTogether number_of_task xs
stand_together xs h i j k d l m n e =
    let p = h.tasks i j d l (omega arith) in let q = h.tasks j k d m n in
    let eq : (get_or xs i d).task ≡ (get_or xs k d).task = e in omega arith

pub elements_count_up : (xs : List NamedSegment) → AreDrawn xs → ElementsCountUp number_of_element xs
elements_count_up xs h k l = absurd (let long = ap (λ (f : List ℕ). length (firsts_of nat_eq f)) h.plain in omega arith)
