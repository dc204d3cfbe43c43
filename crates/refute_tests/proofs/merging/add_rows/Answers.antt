use Rattle.std.proofs.Common.{◌≡◌, ℕ, ◌+◌, ◌-◌, ◌<◌, ◌≤◌, ◌&&◌, ◌||◌, ◌==◌, Bool, true, get_or, ap, ◌∙◌, sym, subst, ⊎_elim, arith, List}
use Rattle.std.proofs.lemmas.Bool.{cases_lt}
use Rattle.std.proofs.lemmas.List.{get_or_default}
use Rattle.hypothesis_index.specs.Places.{pairs_below}
use Rattle.refute_tests.proofs.EarlyLemmas.{named_early}
use Rattle.refute_tests.proofs.StepLemmas.{more_cleared}
use Rattle.refute_tests.specs.inner.Marks.{early_by, has_mark, in_row, row_marks}
use Rattle.trace_types.specs.declared.named_segment.NamedSegment.{NamedSegment}
use Rattle.refute_tests.proofs.merging.add_rows.Goals as goal

pub loop-segment-preserved : goal.loop-segment-preserved
loop-segment-preserved c =
    let v = c.loop-segment.invariant in
    let e = c.mark_early-count.ensures in
    let t : NamedSegment = c.segment-item.result in
    let y : ℕ = c.loop-segment.segment-index in
    let count : ℕ = c.mark_early-count.result in
    let candidates : List NamedSegment = c.args.candidates.now in
    let rows : List NamedSegment = c.args.rows.now in
    let forward : Bool = c.args.forward in
    let grace : ℕ = c.args.grace in
    let inside = c.loop-segment-test.true in
    let early : (k : ℕ) (d : NamedSegment) → k < count → early_by forward grace (get_or candidates k d) t ≡ true = λ k d l. ⊎_elim
    (λ (h : k < c.loop-segment.count). subst (λ (u : NamedSegment). early_by forward grace (get_or candidates k d) u ≡ true) (sym c.segment-item.is) (v.early k d t h inside))
    (λ (h : c.loop-segment.count ≤ k). e.early k d h l)
    (cases_lt k c.loop-segment.count) in
    let marked : (n k : ℕ) → k < 4 → has_mark c.mark_early-count.new.marks n k ≡ (has_mark c.args.marks.now n k || ((k == 0) && _)) = e.marked (has_mark c.args.marks.now) v.marked in
    record {
      within = e.within;
      early = λ k d f l h.
          let same : t ≡ get_or rows y f = c.segment-item.is ∙ sym (get_or_default rows y f t inside) in
          c.requires.stays (get_or candidates k d) y (y + 1) f (omega arith) h (subst (λ (u : NamedSegment). early_by forward grace (get_or candidates k d) u ≡ true) same (early k d l));
      marked = marked;
      added = λ p k h. more_cleared (λ u. row_marks forward grace candidates c.args.marks.now u p k) rows y t (has_mark c.add_row.new.table p k) (has_mark c.loop-segment.table p k) (has_mark c.args.table.now p k) inside c.segment-item.is
          (c.add_row.ensures p k h
          ∙ ap (λ (b : Bool). has_mark c.loop-segment.table p k || (in_row t.name p && b)) (marked (p - pairs_below t.name) k h
          ∙ ap (λ (b : Bool). has_mark c.args.marks.now (p - pairs_below t.name) k || ((k == 0) && b)) (named_early forward grace candidates t count e.within early e.late (c.requires.first t) (p - pairs_below t.name))))
          (v.added p k h);
    }
