use Rattle.std.proofs.Common.{◌<◌, ◌+◌, ◌*◌, ◌^◌, ℕ, List, [], ◌∷◌, ◌++◌, sym, subst, arith}
use Rattle.evidence_rules.specs.Sharings.{Share}
use Rattle.evidence_rules.specs.declared.sharing.Sharing.{Sharing}
use Rattle.trace_types.specs.Listing.{AreExactly}
use Rattle.trace_types.specs.Parts.{by_number}
use Rattle.task_rows.specs.Tables.{entry}
use Rattle.task_sharings.specs.inner.Adding.{with_trace}
use Rattle.task_sharings.specs.inner.Tables.{AreSoFar}
use Rattle.task_sharings.proofs.FigureLemmas.{apart_more, shared_more}
use Rattle.task_sharings.proofs.ListLemmas.{none_shared}
use Rattle.task_sharings.proofs.PlaceLemmas.{halfway_kept, halfway_set}
use Rattle.task_sharings.proofs.noting.note_pair.Goals as goal

pub returns-then-elements-eq0 : goal.returns-then-elements-eq0
returns-then-elements-eq0 c = λ all traces many so.
    let s = c.args.shares.now in
    let t = c.args.from in
    let u = c.args.to in
    let figures : List Sharing = c.args.figures.now in
    let none : AreExactly (Share by_number s.trace.now t u) 0 = subst (AreExactly (Share by_number s.trace.now t u)) c.if-elements-eq0.true c.count-elements.ensures in
    halfway_kept all s.tasks traces s.trace.now t u c.requires.first c.requires.second figures so
    (apart_more all traces s.trace.now t u (entry figures (t * s.tasks + u)) (so.left t u c.requires.first c.requires.second (omega arith)) (none_shared s.trace.now t u none))

pub returns : goal.returns
returns c = λ all traces many so.
    let s = c.args.shares.now in
    let t = c.args.from in
    let u = c.args.to in
    let figures : List Sharing = c.args.figures.now in
    let n = c.count-elements.result in
    let fits : n < 2 ^ 64 = omega (arith, c.count-elements.type_inv) in
    let old = so.left t u c.requires.first c.requires.second (omega arith) in
    let more = shared_more all traces s.trace.now t u (entry figures (t * s.tasks + u)) old n c.refutes-refutes.result (omega (arith, c.if-elements-eq0.false)) fits c.count-elements.ensures c.refutes-refutes.ensures in
    halfway_set all s.tasks traces s.trace.now t u c.requires.first c.requires.second figures so c.with_trace.result
    (subst (AreSoFar all (traces ++ s.trace.now ∷ []) t u) (sym c.with_trace.ensures)
    (subst (λ (k : ℕ). AreSoFar all (traces ++ s.trace.now ∷ []) t u (with_trace (entry figures (t * s.tasks + u)) k n c.refutes-refutes.result)) many more))
