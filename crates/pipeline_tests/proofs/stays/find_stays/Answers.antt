use Rattle.std.proofs.Common.{List, ◌≡◌, ◌+◌, ◌<◌, ℕ, length, get_or, slice_get, Some, subst, sym, ap, refl, arith}
use Rattle.std.proofs.lemmas.Option.{slice_get_read}
use Rattle.pipeline_tests.specs.declared.stays.Stay.{Stay}
use Rattle.pipeline_tests.specs.inner.Stays.{AreStays}
use Rattle.pipeline_tests.proofs.StayLemmas.{no_stays, stays_same}
use Rattle.trace_types.specs.declared.named_segment.NamedSegment.{NamedSegment}
use Rattle.trace_types.specs.declared.named_trace.NamedTrace.{NamedTrace}
use Rattle.pipeline_tests.proofs.stays.find_stays.Goals as goal
use Rattle.pipeline_tests.proofs.stays.find_stays.Goals.{in-Some+in_ok-note_element, in_default}

-- the segment that the loop is at
segment_at : (trace : NamedTrace) (items : List NamedSegment) (k : ℕ) (s : NamedSegment) → items ≡ trace.segments → k < length items → s ≡ get_or items k s → slice_get trace.segments k ≡ Some s
segment_at trace items k s same l at = subst (λ (xs : List NamedSegment). slice_get xs k ≡ Some s) same (slice_get_read items (length items) k s refl l at)

pub loop-index-init : goal.loop-index-init
loop-index-init c = subst (λ (l : List Stay). AreStays c.args.trace.now 0 l) (sym c.clear.ensures.items) (no_stays c.args.trace.now)

pub loop-index-preserved : goal.loop-index-preserved
loop-index-preserved c = let t : NamedTrace = c.args.trace.now in let k = c.loop-index.index in
    let s = c.segment-item.result in
    let at = segment_at t c.items-segment-items.result.now k s c.items-segment-items.ensures c.loop-index-test.true c.segment-item.is in
    elim c.match-segment.branch [
      | in-Some+in_ok-note_element w ↦ subst (λ (l : List Stay). AreStays t (k + 1) l) (sym (ap (λ v. v.items) w.stays-is)) w.in_ok-note_element.ensures
      | in_default w ↦ subst (λ (l : List Stay). AreStays t (k + 1) l) (sym (ap (λ v. v.items) w.stays-is)) (stays_same t k s at w.in_default.is c.loop-index.stays.items c.loop-index.invariant)
    ]

pub returns : goal.returns
returns c = let end : c.loop-index.index ≡ length c.args.trace.now.segments = let same = ap (λ (l : List NamedSegment). length l) c.items-segment-items.ensures in let done = c.loop-index-test.false in let most = c.loop-index.auto.index-end in omega arith in
    subst (λ (n : ℕ). AreStays c.args.trace.now n c.loop-index.stays.items) end c.loop-index.invariant
