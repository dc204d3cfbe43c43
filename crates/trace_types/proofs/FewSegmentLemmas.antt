-- Facts on the segments of small traces.
use Rattle.std.proofs.Common.{◌≡◌, ◌≢◌, ℕ, ◌<◌, ◌≤◌, List, map, length, Contains, All, AllPairs, arith, sym, ap, ◌∙◌, subst, zero, suc, [], ◌∷◌, nat_eq, refl, None}
use Rattle.std.proofs.lemmas.Bool.{eqb-true}
use Rattle.std.proofs.lemmas.Bool.Decides.{Decides-eqb}
use Rattle.std.proofs.lemmas.List.{length-map}
use Rattle.std.proofs.lemmas.Map.Steps.{length-le_from_distinct_below}
use Rattle.std.proofs.lemmas.Map.Made.{IsDistinct-from_AllPairs}
use Rattle.std.proofs.lemmas.Map.Views.{Contains-from_any}
use Rattle.std.proofs.lemmas.Option.{get_or_from_slice_get}
use Rattle.std.specs.List.{filter_map}
use Rattle.trace_types.specs.Firsts.{firsts_of}
use Rattle.trace_types.proofs.ElementLemmas.{mapped_at, at_index}
use Rattle.trace_types.specs.SegmentLists.{NamesDiffer, TasksStandTogether, JoinInTasks, ElementsCountUp}
use Rattle.trace_types.specs.NamedSegments.{number_of_name, number_of_task, named_start, named_end, number_of_element}
use Rattle.trace_types.specs.declared.named_segment.NamedSegment.{NamedSegment}

-- segments with different names below a number are no more than that
pub few_names : (n : ℕ) (segments : List NamedSegment) → NamesDiffer number_of_name segments → All (λ (s : NamedSegment). s.name < n) segments → length segments ≤ n
few_names n segments differ below = subst (λ (k : ℕ). k ≤ n) same_length
    (length-le_from_distinct_below names n (IsDistinct-from_AllPairs Decides-eqb names apart) (λ q found. under q (Contains-from_any (λ x y. eqb-true x y) q names found)))
  where
    names : List ℕ
    names = map number_of_name segments

    same_length : length names ≡ length segments
    same_length = length-map segments number_of_name

    apart : AllPairs (λ a b. a ≢ b) names
    apart i j d lt within same =
        let before : j < length segments = omega (arith, same_length) in
        let (s, is) = at_index segments i (omega arith) in
        let (t, ts) = at_index segments j before in
        differ i j s lt before (
        ap number_of_name (get_or_from_slice_get segments i s s is)
        ∙ (sym (mapped_at number_of_name segments i d s is) ∙ (same ∙ (mapped_at number_of_name segments j d t ts
        ∙ sym (ap number_of_name (get_or_from_slice_get segments j t s ts))))))

    under : (q : ℕ) → Contains names q → q < n
    under q (k, lt, is) =
        let (s, got) = at_index segments k (omega (arith, same_length)) in
        let name : s.name ≡ q = sym (mapped_at number_of_name segments k q s got) ∙ is in
        let small : s.name < n = subst (λ (x : NamedSegment). x.name < n) (get_or_from_slice_get segments k s s got) (below k s (omega (arith, same_length))) in
        omega arith

pub two_names : (s t : NamedSegment) → s.name ≢ t.name → NamesDiffer number_of_name (s ∷ t ∷ [])
two_names s t ne zero zero d l h = absurd (omega arith)
two_names s t ne zero (suc zero) d l h = ne
two_names s t ne zero (suc (suc j)) d l h = absurd (omega arith)
two_names s t ne (suc i) j d l h = absurd (omega arith)

pub two_together : (s t : NamedSegment) → TasksStandTogether number_of_task (s ∷ t ∷ [])
two_together s t i j k d l m h = absurd (omega arith)

pub two_joined : (s t : NamedSegment) → s.task ≢ t.task → JoinInTasks number_of_task named_start named_end (s ∷ t ∷ [])
two_joined s t ne zero d h e = absurd (ne e)
two_joined s t ne (suc k) d h e = absurd (omega arith)

pub two_elements : (s t : NamedSegment) → s.element ≡ None → t.element ≡ None → ElementsCountUp number_of_element (s ∷ t ∷ [])
two_elements s t es et k h = absurd (let none : filter_map number_of_element (s ∷ t ∷ []) ≡ [] = rw (es, et) refl in let long = ap (λ (l : List ℕ). length (firsts_of nat_eq l)) none in omega arith)
