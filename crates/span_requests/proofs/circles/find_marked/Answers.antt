use Rattle.std.proofs.Common.{arith, ap, sym, refl, subst, ◌≢◌, ◌∙◌, ◌+◌, ◌<◌, ℕ, length, get_or}
use Rattle.std.specs.Prelude.{IsSome}
use Rattle.std.specs.Bool.{OnFalse, OnTrue}
use Rattle.std.proofs.lemmas.List.{length-replicate}
use Rattle.std.proofs.lemmas.List.Elements.{All-get_or}
use Rattle.span_requests.specs.inner.Circles.{HaveEnds, leads_to_circle, number_above}
use Rattle.span_requests.proofs.CallerLemmas.{none_more, position_at, position_nowhere}
use Rattle.span_requests.proofs.CircleLemmas.{a_circle, same_at, few_more, fresh_walk, no_circle, no_marks}
use Rattle.span_requests.proofs.circles.find_marked.Goals as goal

pub loop-index-init : goal.loop-index-init
loop-index-init c =
    let none = no_marks c.args.callers.now c.args.marks.now (length c.args.callers.now) c.requires.marks in
    record {
      ends = none.0;
      few = none.1;
      none = λ k d lt. absurd (omega arith);
    }

pub walk_ends-requires : goal.walk_ends-requires
walk_ends-requires c =
    let size = ap length c.requires.marks ∙ length-replicate (length c.args.callers.now) 0 in
    record {
      callers = c.requires.callers;
      same = omega (arith, c.loop-index.auto.marks, size);
      within = All-get_or (λ n. n < length c.args.callers.now) c.args.numbers.now c.loop-index.index 0 c.loop-index-test.true c.requires.within;
      positive = omega arith;
      fresh = fresh_walk c.loop-index.marks c.loop-index.index (c.loop-index.index + 1) refl c.loop-index.invariant.few;
      ends = c.loop-index.invariant.ends;
    }

pub returns-then-not-walk_ends : goal.returns-then-not-walk_ends
returns-then-not-walk_ends c =
    let numbers = c.args.numbers.now in
    let i = c.loop-index.index in
    let n : ℕ = get_or numbers i 0 in
    let circle = subst (λ b. OnFalse b ((m : ℕ) → IsSome (number_above c.args.callers.now m n))) c.if-not-walk_ends.true c.walk_ends.ensures.circle in
    sym (position_at (leads_to_circle c.args.callers.now) numbers i n c.loop-index-test.true (same_at numbers i 0 n c.loop-index-test.true) (a_circle c.args.callers.now n circle) c.loop-index.invariant.none)

pub loop-index-preserved : goal.loop-index-preserved
loop-index-preserved c =
    let numbers = c.args.numbers.now in
    let callers = c.args.callers.now in
    let i = c.loop-index.index in
    let n : ℕ = get_or numbers i 0 in
    let marks = c.walk_ends.new.marks in
    let ends = subst (λ b. OnTrue b (HaveEnds callers marks)) c.if-not-walk_ends.false c.walk_ends.ensures.ends in
    let start = subst (λ b. OnTrue b (get_or marks n 0 ≢ 0)) c.if-not-walk_ends.false c.walk_ends.ensures.start in
    let size = ap length c.requires.marks ∙ length-replicate (length callers) 0 in
    let within : n < length callers = All-get_or (λ n. n < length callers) numbers i 0 c.loop-index-test.true c.requires.within in
    record {
      ends = ends;
      few = few_more c.loop-index.marks marks i (i + 1) refl c.loop-index.invariant.few c.walk_ends.ensures.marks;
      none = none_more (leads_to_circle callers) numbers i n c.loop-index-test.true (same_at numbers i 0 n c.loop-index-test.true) (no_circle callers marks n (omega (arith, c.walk_ends.auto.marks, c.loop-index.auto.marks, size)) within ends start) c.loop-index.invariant.none;
    }

pub returns : goal.returns
returns c = sym (position_nowhere (leads_to_circle c.args.callers.now) c.args.numbers.now c.loop-index.index (omega arith) c.loop-index.invariant.none)
