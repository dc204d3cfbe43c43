use Rattle.std.proofs.Common.{◌≡◌, ◌≤◌, Some, length, slice_get, arith, refl, sym, ap, ◌∙◌}
use Rattle.std.proofs.lemmas.Bool.{false≢true}
use Rattle.std.proofs.lemmas.Option.{slice_get_read}
use Rattle.task_sharings.proofs.StayLemmas.{handled_here, never, none_more, not_here, start_here}
use Rattle.task_sharings.proofs.staying.start_of.Goals as goal

pub returns-then-handles : goal.returns-then-handles
returns-then-handles c =
    let trace = c.args.trace.now in
    let i = c.segments.index in
    let s = c.index-segments-index.result in
    let items = c.items-segments.result.now in
    let at : slice_get trace.segments i ≡ Some s = ap (λ l. slice_get l i) (sym c.items-segments.ensures) ∙ slice_get_read items (length items) i s refl c.segments-test.true c.index-segments-index.is in
    start_here trace c.args.task c.args.element i s c.segments.invariant (handled_here trace c.args.task c.args.element i s at (c.handles.ensures.0 c.if-handles.true))

pub segments-preserved : goal.segments-preserved
segments-preserved c =
    let trace = c.args.trace.now in
    let i = c.segments.index in
    let s = c.index-segments-index.result in
    let items = c.items-segments.result.now in
    let at : slice_get trace.segments i ≡ Some s = ap (λ l. slice_get l i) (sym c.items-segments.ensures) ∙ slice_get_read items (length items) i s refl c.segments-test.true c.index-segments-index.is in
    none_more trace c.args.task c.args.element i c.segments.invariant (not_here trace c.args.task c.args.element i s at (λ h. false≢true (sym c.if-handles.false ∙ c.handles.ensures.1 h)))

pub returns : goal.returns
returns c =
    let all : length c.args.trace.now.segments ≤ c.segments.index = let e = ap length c.items-segments.ensures in let f = c.segments-test.false in omega arith in
    never c.args.trace.now c.args.task c.args.element c.segments.index all c.segments.invariant
