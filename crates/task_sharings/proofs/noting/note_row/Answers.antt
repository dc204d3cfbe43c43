use Rattle.std.proofs.Common.{◌≡◌, ◌+◌, ◌*◌, ℕ, subst, arith}
use Rattle.task_sharings.specs.inner.Tables.{IsHalfway}
use Rattle.task_sharings.proofs.PlaceLemmas.{halfway_row}
use Rattle.task_sharings.proofs.noting.note_row.Goals as goal

pub returns-then-not-has_elements : goal.returns-then-not-has_elements
returns-then-not-has_elements c = λ all traces many so.
    let s = c.args.shares.now in
    halfway_row all s.tasks traces s.trace.now c.args.from c.requires.first
    (λ u e share. c.has_elements.ensures c.if-not-has_elements.true e (share.k, share.s, share.one)) c.args.figures.now so

pub note_pair-requires-clause-before : goal.note_pair-requires-clause-before
note_pair-requires-clause-before c =
    let b = c.requires.before in
    record { all = b.all; traces = b.traces; many = b.many; halfway = c.others.invariant b.all b.traces b.many b.halfway }

pub others-preserved : goal.others-preserved
others-preserved c = λ all traces many so.
    let s = c.args.shares.now in
    let from = c.args.from in
    let to = c.others.to in
    let e : from * s.tasks + to + 1 ≡ from * s.tasks + (to + 1) = omega arith in
    subst (λ (p : ℕ). IsHalfway all s.tasks traces s.trace.now p c.note_pair.new.figures) e
    (c.note_pair.ensures all traces many (c.others.invariant all traces many so))

pub returns : goal.returns
returns c = λ all traces many so.
    let s = c.args.shares.now in
    let from = c.args.from in
    let to = c.others.to in
    let row : (from + 1) * s.tasks ≡ from * s.tasks + s.tasks = grind arith in
    let e : from * s.tasks + to ≡ (from + 1) * s.tasks = omega (arith, row, c.others-test.false, c.others.auto.to-end) in
    subst (λ (p : ℕ). IsHalfway all s.tasks traces s.trace.now p c.others.figures) e (c.others.invariant all traces many so)
