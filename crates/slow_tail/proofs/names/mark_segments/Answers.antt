use Rattle.std.proofs.Common.{◌≡◌, ◌↔◌, ◌⊎◌, ◌<◌, ℕ, ◌+◌, ◌++◌, ◌∷◌, [], Some, true, List, length, get_or, map, set, slice_get, take, Contains, refl, arith, sym, ap, ◌∙◌, subst, inl, inr, ⊎_elim}
use Rattle.std.proofs.lemmas.List.{length-set, map_more, take_all}
use Rattle.trace_types.specs.declared.named_segment.NamedSegment.{NamedSegment}
use Rattle.trace_types.specs.NamedSegments.{number_of_name}
use Rattle.slow_tail.proofs.MarkLemmas.{marked_more}
use Rattle.slow_tail.proofs.names.mark_segments.Goals as goal

pub segments-preserved : goal.segments-preserved
segments-preserved c =
    let segments = c.args.segments.now in
    let i = c.segments.segment-index in
    let s = c.segment-item.result in
    let so_far = c.segments.invariant in
    let count = so_far.count in
    let small : s.name < length c.args.marked.now = subst (λ (x : NamedSegment). x.name < length c.args.marked.now) (sym c.segment-item.is) (c.requires i s c.segments-test.true) in
    let more : map number_of_name (take (i + 1) segments) ≡ map number_of_name (take i segments) ++ s.name ∷ [] =
    map_more number_of_name segments i s c.segments-test.true ∙ ap (λ (x : NamedSegment). map number_of_name (take i segments) ++ x.name ∷ []) (sym c.segment-item.is) in
    record {
      count = length-set c.segments.marked s.name true ∙ count;
      marks = λ n. subst (λ (l : List ℕ). (slice_get (set c.segments.marked s.name true) n ≡ Some true) ↔ ((slice_get c.args.marked.now n ≡ Some true) ⊎ Contains l n)) (sym more)
          (marked_more c.args.marked.now (map number_of_name (take i segments)) c.segments.marked s.name n (omega arith) (so_far.marks n));
    }

pub returns-clause-marks : goal.returns-clause-marks
returns-clause-marks c = λ n.
    subst (λ (l : List NamedSegment). (slice_get c.segments.marked n ≡ Some true) ↔ ((slice_get c.args.marked.now n ≡ Some true) ⊎ Contains (map number_of_name l) n))
    (take_all c.segments.segment-index c.args.segments.now c.segments-test.false) (c.segments.invariant.marks n)
