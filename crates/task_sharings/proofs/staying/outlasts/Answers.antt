use Rattle.std.proofs.Common.{◌≡◌, ◌↔◌, Bool, true, Some, length, slice_get, arith, refl, sym, ap, ◌∙◌, subst}
use Rattle.std.proofs.lemmas.Option.{slice_get_read}
use Rattle.trace_types.specs.Parts.{by_number}
use Rattle.trace_types.specs.Refuting.{StartsEarly}
use Rattle.task_sharings.proofs.StayLemmas.{outlasts_told, within_trace}
use Rattle.task_sharings.proofs.staying.outlasts.Goals as goal

pub returns : goal.returns
returns c =
    let trace = c.args.trace.now in
    let task = c.args.task in
    let e = c.args.element in
    let end = c.in-Some-Some.end in
    let start = c.in-Some-Some.start in
    let s = c.index-segments-end.result in
    let u = c.index-segments-start.result in
    let items = c.items-segments.result.now in
    let many = ap length c.items-segments.ensures in
    let ends = c.in-Some-Some.ensures in
    let starts = c.in-Some-Some.ensures' in
    let at_s : slice_get trace.segments end ≡ Some s = ap (λ l. slice_get l end) (sym c.items-segments.ensures) ∙ slice_get_read items (length items) end s refl (let w = within_trace trace task e end ends.0 ends.1.handles in omega arith) c.index-segments-end.is in
    let at_u : slice_get trace.segments start ≡ Some u = ap (λ l. slice_get l start) (sym c.items-segments.ensures) ∙ slice_get_read items (length items) start u refl (let w = within_trace trace task e start starts.0 starts.1.handles in omega arith) c.index-segments-start.is in
    outlasts_told trace task e end start s u c.starts_early.result at_s at_u ends starts
    (subst (λ (b : Bool). (b ≡ true) ↔ StartsEarly by_number trace u s) (sym c.starts_early.ensures) (c.starts_early_tells.ensures trace u s))
