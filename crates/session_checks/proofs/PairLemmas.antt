-- Facts on the two segments of a trace that tests make.
use Rattle.std.proofs.Common.{◌≡◌, ℕ, zero, suc, ◌<◌, nat_eq, List, [], ◌∷◌, refl, length, get_or, Some, sym, subst, arith}
use Rattle.std.specs.List.{filter_map}
use Rattle.trace_types.specs.Firsts.{firsts_of}
use Rattle.trace_types.specs.NamedSegments.{number_of_element}
use Rattle.trace_types.specs.SegmentLists.{ElementsCountUp}
use Rattle.trace_types.specs.declared.named_segment.NamedSegment.{NamedSegment}

-- the one element
counted : (k : ℕ) → k < length (firsts_of nat_eq (0 ∷ 0 ∷ [])) → get_or (firsts_of nat_eq (0 ∷ 0 ∷ [])) k 0 ≡ k
counted zero l = refl
counted (suc k) l = absurd (omega arith)

pub two_of_one_element : (s t : NamedSegment) → s.element ≡ Some 0 → t.element ≡ Some 0 → ElementsCountUp number_of_element (s ∷ t ∷ [])
two_of_one_element s t es et k =
    let same : filter_map number_of_element (s ∷ t ∷ []) ≡ 0 ∷ 0 ∷ [] = rw (es, et) refl in
    subst (λ (l : List ℕ). k < length (firsts_of nat_eq l) → get_or (firsts_of nat_eq l) k 0 ≡ k) (sym same) (counted k)
