use Rattle.std.proofs.Common.{◌∙◌, ◌+◌, ◌^◌, ◌<◌, sym, ap, subst, arith, length}
use Rattle.day_partitions.specs.Books.{AreRising, BookState, IsBook, IsSheetOf, all_traces, with_added}
use Rattle.day_partitions.specs.Meets.{meets_of_add}
use Rattle.day_partitions.specs.inner.Insides.{book_of}
use Rattle.day_partitions.specs.inner.Slots.{HasTraceRoom}
use Rattle.day_partitions.proofs.RoomLemmas.{same_shown, same_slots}
use Rattle.day_partitions.proofs.AddLemmas.{view_same, slots_same, not_full, has_room, view_added, book_kept}
use Rattle.day_partitions.proofs.day_book.DayBook.add_counted.Goals as goal

pub invariant_of-self : goal.invariant_of-self
invariant_of-self g c =
    let a = c.self.inside in
    record {
      width = ap (λ t. t.width) c.in_default.ensures.err ∙ c.self.invariant.width;
      slots = slots_same _ _ _ _ c.self.invariant.slots c.in_default.ensures.err c.make_room.ensures.same;
      kept = subst (λ b. IsBook b) (sym (view_same a.names a.tree c.make_room.new.tree a.days.items c.make_room.new.days.items c.in_default.ensures.err c.make_room.ensures.same)) c.self.invariant.kept;
      capacity = omega (arith, c.self.invariant.capacity, c.make_room.ensures.capacity);
    }

pub returns-in_default-clause-unchanged : goal.returns-in_default-clause-unchanged
returns-in_default-clause-unchanged g c =
    let a = c.self.inside in
    view_same a.names a.tree c.make_room.new.tree a.days.items c.make_room.new.days.items c.in_default.ensures.err c.make_room.ensures.same ∙ c.self.view_is

pub take_in-requires-clause-slots : goal.take_in-requires-clause-slots
take_in-requires-clause-slots g c = same_slots _ _ _ _ c.self.invariant.slots c.make_room.ensures.leaves c.make_room.ensures.width c.make_room.ensures.same

pub take_in-requires-clause-rising : goal.take_in-requires-clause-rising
take_in-requires-clause-rising g c = subst (λ l. AreRising l) (sym (same_shown _ _ c.make_room.ensures.same)) c.self.invariant.kept.rising

pub take_in-requires-clause-room : goal.take_in-requires-clause-room
take_in-requires-clause-room g c =
    let a = c.self.inside in
    let free = not_full a.names a.tree.spare c.args.day a.days.items c.deref.result.now c.is_full.result c.deref.ensures.value c.is_full.ensures c.if-is_full.false in
    has_room a.names c.args.day (length c.args.sheet.traces) a.tree c.make_room.new.tree a.days.items c.make_room.new.days.items c.self.invariant.kept free c.make_room.ensures.same
    (subst (λ l. HasTraceRoom c.make_room.new.days.items c.args.day (length l)) c.traces-more.ensures c.in-Ok.ensures.room) c.in-Ok.ensures.row

pub invariant_of-self-2 : goal.invariant_of-self-2
invariant_of-self-2 g c =
    let a = c.self.inside in
    let free = not_full a.names a.tree.spare c.args.day a.days.items c.deref.result.now c.is_full.result c.deref.ensures.value c.is_full.ensures c.if-is_full.false in
    let is = view_added a.names c.args.day c.args.sheet.traces a.tree c.make_room.new.tree c.take_in.new.tree a.days.items c.make_room.new.days.items c.take_in.new.days.items c.make_room.ensures.same c.make_room.ensures.kept c.make_room.ensures.spare c.take_in.ensures.days c.take_in.ensures.spare in
    record {
      width = c.take_in.ensures.width ∙ c.make_room.ensures.width ∙ c.self.invariant.width;
      slots = c.take_in.ensures.slots;
      kept = book_kept (book_of a) _ c.args.day c.args.sheet is c.self.invariant.kept
          (subst (λ (b : BookState). IsSheetOf b.names c.args.day c.args.sheet) (sym c.self.view_is) c.requires.sheet) free
          (subst (λ (b : BookState). length (all_traces b.days) + length c.args.sheet.traces < 2 ^ 32) (sym c.self.view_is) c.requires.counted);
      capacity = c.take_in.ensures.capacity;
    }

pub returns-clause-added : goal.returns-clause-added
returns-clause-added g c =
    let a = c.self.inside in
    view_added a.names c.args.day c.args.sheet.traces a.tree c.make_room.new.tree c.take_in.new.tree a.days.items c.make_room.new.days.items c.take_in.new.days.items c.make_room.ensures.same c.make_room.ensures.kept c.make_room.ensures.spare c.take_in.ensures.days c.take_in.ensures.spare
    ∙ ap (λ b. with_added b c.args.day c.args.sheet.traces) c.self.view_is

pub returns-clause-steps : goal.returns-clause-steps
returns-clause-steps g c =
    c.take_in.ensures.steps
    ∙ ap (λ l. c.args.steps.now + meets_of_add l c.args.day) (same_shown _ _ c.make_room.ensures.same)
    ∙ ap (λ (b : BookState). c.args.steps.now + meets_of_add b.days c.args.day) c.self.view_is
