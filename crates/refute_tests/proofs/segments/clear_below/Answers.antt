use Rattle.std.proofs.Common.{◌≡◌, ◌+◌, ◌*◌, ◌/◌, ◌%◌, ◌^◌, ◌<◌, ◌||◌, ◌&&◌, ◌==◌, ℕ, ℤ, Bool, get_or, sym, subst, ap, ◌∙◌, arith, w64, rules}
use Rattle.std.proofs.lemmas.List.{get_or_default}
use Rattle.std.proofs.lemmas.Int.{to_z-of_z}
use Rattle.std.specs.Int.{bit_at}
use Rattle.hypothesis_index.specs.Places.{pairs_below}
use Rattle.refute_tests.specs.Clearing.{starts_early}
use Rattle.refute_tests.specs.inner.Hits.{IsEndLimit, IsStartLimit, clears_with, hits, kinds_of}
use Rattle.refute_tests.proofs.MaskLemmas.{pair_mask, more_bits}
use Rattle.refute_tests.proofs.StepLemmas.{more_cleared}
use Rattle.trace_types.specs.declared.named_segment.NamedSegment.{NamedSegment}
use Rattle.word_rows.specs.Rows.{clears}
use Rattle.refute_tests.proofs.segments.clear_below.Goals as goal

pub loop-other-preserved : goal.loop-other-preserved
loop-other-preserved c =
    let v = c.loop-other.invariant in
    let e = c.in_ok-mask.ensures in
    let s : NamedSegment = c.other-item.result in
    let t : NamedSegment = c.args.segment.now in
    let k = c.loop-other.other-index in
    let less : s.name < t.name = subst (λ (u : NamedSegment). u.name < t.name) (sym c.other-item.is) (c.requires.less k s c.loop-other-test.true) in
    let slot : ℕ = c.row_slot-row.result + s.name in
    let first : c.row_slot-row.result ≡ 2016 + pairs_below t.name = c.row_slot-row.ensures.first in
    let at : slot ≡ 2016 + pairs_below t.name + s.name = omega arith in
    let end = subst (λ (z : ℤ). IsEndLimit z c.args.grace t) (sym (to_z-of_z w64 c.end_limit-end_limit.result (search rules))) c.end_limit-end_limit.ensures in
    let start = subst (λ (z : ℤ). IsStartLimit z c.args.grace t) (sym (to_z-of_z w64 c.start_limit-start_limit.result (search rules))) c.start_limit-start_limit.ensures in
    let kinds : c.pair_kinds.result ≡ kinds_of (starts_early c.args.grace t s) (starts_early c.args.grace s t) = c.pair_kinds.ensures c.args.grace t end start in
    record {
      cleared = λ i b. more_cleared (λ u. hits c.args.grace u t i b) c.args.before.now k s
          (clears_with c.turn_to.new.maker (slot / 16) _ i b) (clears_with c.turn_to.new.maker (slot / 16) c.in_ok-mask.mask i b) (clears c.args.maker.now i b) c.loop-other-test.true c.other-item.is
          (more_bits c.turn_to.new.maker (slot / 16) c.in_ok-mask.mask _ i b
          ∙ ap (λ (y : Bool). clears_with c.turn_to.new.maker (slot / 16) c.in_ok-mask.mask i b || y)
          (ap (λ (n : ℕ). (slot / 16 == i) && (bit_at (n * 2 ^ (4 * (slot % 16)) % 2 ^ 64) b == 1)) kinds ∙ pair_mask c.args.grace s t less slot at i b))
          (e.same i b ∙ v.cleared i b);
      no_later = e.no_later;
      next = λ d h.
          let same : get_or c.args.before.now k d ≡ s = get_or_default c.args.before.now k d s c.loop-other-test.true ∙ sym c.other-item.is in
          let up : s.name < (get_or c.args.before.now (k + 1) d).name = subst (λ (u : NamedSegment). u.name < (get_or c.args.before.now (k + 1) d).name) same (c.requires.rising k (k + 1) d (omega arith) h) in
          omega arith;
      within = omega arith;
    }
