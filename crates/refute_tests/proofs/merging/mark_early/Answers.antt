use Rattle.std.proofs.Common.{◌≡◌, ℕ, true, get_or, ◌∙◌, sym, subst, ⊎_elim, arith}
use Rattle.std.proofs.lemmas.Bool.{cases_eq}
use Rattle.std.proofs.lemmas.List.{get_or_default}
use Rattle.refute_tests.proofs.EarlyLemmas.{more_named}
use Rattle.refute_tests.specs.inner.Marks.{early_by, has_mark}
use Rattle.trace_types.specs.declared.named_segment.NamedSegment.{NamedSegment}
use Rattle.refute_tests.proofs.merging.mark_early.Goals as goal

pub loop-index-preserved : goal.loop-index-preserved
loop-index-preserved c =
    let v = c.loop-index.invariant in
    let s : NamedSegment = c.index-candidates-index.result in
    let i : ℕ = c.loop-index.index in
    let at = c.index-candidates-index.is in
    let here : early_by c.args.forward c.args.grace s c.args.segment.now ≡ true = sym c.is_early.ensures ∙ c.if-not-is_early.false in
    record {
      early = λ k d l h. ⊎_elim
          (λ (e : k ≡ i). subst (λ (m : ℕ). early_by c.args.forward c.args.grace (get_or c.args.candidates.now m d) c.args.segment.now ≡ true) (sym e)
          (subst (λ (u : NamedSegment). early_by c.args.forward c.args.grace u c.args.segment.now ≡ true) (at ∙ sym (get_or_default c.args.candidates.now i d s c.loop-index-test.true)) here))
          (λ (e : k ≡ i → ⊥). v.early k d l (omega arith))
          (cases_eq k i);
      marked = λ first so n k h. more_named c.args.candidates.now i n k s (has_mark c.add_mark.new.marks n k) (has_mark c.loop-index.marks n k) (first n k) c.loop-index-test.true at (c.add_mark.ensures n k h) (v.marked first so n k h);
    }
