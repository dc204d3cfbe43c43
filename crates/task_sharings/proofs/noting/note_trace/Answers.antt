use Rattle.std.proofs.Common.{◌≡◌, ◌+◌, ◌*◌, ℕ, sym, subst, arith}
use Rattle.trace_types.specs.declared.named_trace.NamedTrace.{NamedTrace}
use Rattle.task_sharings.specs.inner.Tables.{AreNoted, CanBeNoted, IsHalfway}
use Rattle.task_sharings.proofs.PlaceLemmas.{halfway_all, halfway_none}
use Rattle.task_sharings.proofs.noting.note_trace.Goals as goal

pub note_row-requires-clause-before : goal.note_row-requires-clause-before
note_row-requires-clause-before c =
    let b = c.requires.before in
    let s = c.in_ok-shares.shares in
    let trace : NamedTrace = c.args.trace.now in
    let tasks = c.args.tasks in
    let from = c.tasks.from in
    let figures = c.tasks.figures in
    subst (λ (k : ℕ). CanBeNoted k c.args.index s.trace.now (from * k) figures) (sym c.in_ok-shares.ensures.tasks)
    (subst (λ (x : NamedTrace). CanBeNoted tasks c.args.index x (from * tasks) figures) (sym c.in_ok-shares.ensures.trace)
    (record { all = b.all; traces = b.traces; many = b.many; halfway = c.tasks.invariant b.all b.traces b.many (halfway_none b.all tasks b.traces trace c.args.figures.now b.table) }))

pub tasks-preserved : goal.tasks-preserved
tasks-preserved c = λ all traces many so.
    let s = c.in_ok-shares.shares in
    let trace : NamedTrace = c.args.trace.now in
    let tasks = c.args.tasks in
    let from = c.tasks.from in
    let old = c.tasks.figures in
    let new = c.note_row.new.figures in
    let step : AreNoted tasks c.args.index trace (from * tasks) old ((from + 1) * tasks) new =
    subst (λ (k : ℕ). AreNoted k c.args.index trace (from * k) old ((from + 1) * k) new) c.in_ok-shares.ensures.tasks
    (subst (λ (x : NamedTrace). AreNoted s.tasks c.args.index x (from * s.tasks) old ((from + 1) * s.tasks) new) c.in_ok-shares.ensures.trace c.note_row.ensures) in
    step all traces many (c.tasks.invariant all traces many so)

pub returns : goal.returns
returns c = λ all traces many table.
    let trace : NamedTrace = c.args.trace.now in
    let tasks = c.args.tasks in
    let end : c.tasks.from ≡ tasks = omega (arith, c.tasks-test.false, c.tasks.auto.from-end) in
    halfway_all all tasks traces trace c.tasks.figures
    (subst (λ (k : ℕ). IsHalfway all tasks traces trace (k * tasks) c.tasks.figures) end
    (c.tasks.invariant all traces many (halfway_none all tasks traces trace c.args.figures.now table)))
