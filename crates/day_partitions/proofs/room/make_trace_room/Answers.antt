use Rattle.std.proofs.Common.{◌∙◌, ◌+◌, ◌≤◌, sym, ap, subst, arith, vec_len, vec_capacity}
use Rattle.std.proofs.lemmas.Bool.{iff_false, false≢true}
use Rattle.trace_types.proofs.TruthLemmas.{on_ok}
use Rattle.day_partitions.specs.inner.Slots.{place_in_days, IsDayAt}
use Rattle.day_partitions.proofs.ShownLemmas.{kept_at, not_kept}
use Rattle.day_partitions.proofs.RoomLemmas.{trace_room, no_trace_room}
use Rattle.day_partitions.proofs.room.make_trace_room.Goals as goal

pub returns-then-is_day_at-clause-room : goal.returns-then-is_day_at-clause-room
returns-then-is_day_at-clause-room c =
    let ds = c.args.days.now.items in
    let yes : IsDayAt ds c.find_place-place.result c.args.day = subst (λ l. IsDayAt l c.find_place-place.result c.args.day) c.deref-2.ensures.value (c.is_day_at.ensures.0 c.if-is_day_at.true) in
    on_ok c.reserve.result _ _ (λ (h : vec_len c.reserve.new.self + c.args.more ≤ vec_capacity c.reserve.new.self). trace_room ds c.args.day c.args.more c.find_place-place.result _ c.requires yes (omega (arith, h, c.reserve.new.self.ok.0))) c.reserve.ensures.ok

pub returns-then-is_day_at-clause-sure : goal.returns-then-is_day_at-clause-sure
returns-then-is_day_at-clause-sure c = λ none.
    let ds = c.args.days.now.items in
    let at = c.find_place-place.ensures.place ∙ ap (place_in_days c.args.day) c.deref.ensures.value in
    let yes : IsDayAt ds c.find_place-place.result c.args.day = subst (λ l. IsDayAt l c.find_place-place.result c.args.day) c.deref-2.ensures.value (c.is_day_at.ensures.0 c.if-is_day_at.true) in
    absurd (false≢true (sym none ∙ kept_at c.args.day c.find_place-place.result ds at yes))

pub returns-clause-room : goal.returns-clause-room
returns-clause-room c =
    let ds = c.args.days.now.items in
    let at = c.find_place-place.ensures.place ∙ ap (place_in_days c.args.day) c.deref.ensures.value in
    let no : IsDayAt ds c.find_place-place.result c.args.day → ⊥ = λ h. iff_false c.is_day_at.ensures c.if-is_day_at.false (subst (λ l. IsDayAt l c.find_place-place.result c.args.day) (sym c.deref-2.ensures.value) h) in
    no_trace_room ds c.args.day c.args.more (not_kept c.args.day c.find_place-place.result ds at c.requires no)
