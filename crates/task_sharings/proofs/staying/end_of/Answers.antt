use Rattle.std.proofs.Common.{◌≡◌, ◌≤◌, ◌+◌, Some, length, slice_get, arith, refl, sym, ap, ◌∙◌, subst}
use Rattle.std.proofs.lemmas.Bool.{false≢true}
use Rattle.std.proofs.lemmas.Option.{slice_get_read}
use Rattle.task_sharings.proofs.StayLemmas.{EndSoFar, handled_here, last_here, not_here, so_far_all, so_far_kept}
use Rattle.task_sharings.proofs.staying.end_of.Goals as goal
use Rattle.task_sharings.proofs.staying.end_of.Goals.{then-handles, else-handles}

pub segments-preserved : goal.segments-preserved
segments-preserved c =
    let trace = c.args.trace.now in
    let t = c.args.task in
    let e = c.args.element in
    let i = c.segments.index in
    let s = c.index-segments-index.result in
    let items = c.items-segments.result.now in
    let at : slice_get trace.segments i ≡ Some s = ap (λ l. slice_get l i) (sym c.items-segments.ensures) ∙ slice_get_read items (length items) i s refl c.segments-test.true c.index-segments-index.is in
    elim c.if-handles.branch [
      | then-handles w ↦ subst (EndSoFar trace t e (i + 1)) (sym w.end-is) (last_here trace t e i s (handled_here trace t e i s at (c.handles.ensures.0 w.if-handles.true)))
      | else-handles w ↦ subst (EndSoFar trace t e (i + 1)) (sym w.end-is) (so_far_kept trace t e i c.segments.end c.segments.invariant (not_here trace t e i s at (λ h. false≢true (sym w.if-handles.false ∙ c.handles.ensures.1 h))))
    ]

pub returns : goal.returns
returns c =
    let all : length c.args.trace.now.segments ≤ c.segments.index = let e = ap length c.items-segments.ensures in let f = c.segments-test.false in omega arith in
    so_far_all c.args.trace.now c.args.task c.args.element c.segments.index c.segments.end all c.segments.invariant
