use Rattle.std.proofs.Common.{◌≡◌, ◌∙◌, false, sym, ap, subst, length, take, IsOk}
use Rattle.std.proofs.lemmas.Bool.{false≢true}
use Rattle.std.proofs.lemmas.List.{get_or_read, take_all}
use Rattle.std.proofs.lemmas.List.Elements.{All-more, All-weaker}
use Rattle.day_partitions.specs.Books.{AreRising, has_day}
use Rattle.day_partitions.specs.declared.dated_sheet.DatedSheet.{DatedSheet}
use Rattle.day_partitions.specs.inner.Rooms.{HaveTraceRoom}
use Rattle.day_partitions.specs.inner.Slots.{HasTraceRoom, shown_days}
use Rattle.day_partitions.proofs.BatchLemmas.{room_stays, same_days_more}
use Rattle.day_partitions.proofs.RoomLemmas.{same_shown}
use Rattle.day_partitions.proofs.batches.make_trace_rooms.Goals as goal

pub make_trace_room-requires : goal.make_trace_room-requires
make_trace_room-requires c = subst (λ l. AreRising l) (sym (same_shown _ _ c.sheets.invariant.same)) c.requires

pub sheets-preserved : goal.sheets-preserved
sheets-preserved c =
    let i = c.sheets.invariant in
    let es = c.make_trace_room.new.days.items in
    let s = c.dated-item.result in
    let k = c.sheets.dated-index in
    let ss = c.args.sheets.now in
    let here : HasTraceRoom es s.day (length s.sheet.traces) = subst (λ l. HasTraceRoom es s.day (length l)) c.traces.ensures c.in_ok-make_trace_room.ensures.room in
    record {
      room = All-more (λ (x : DatedSheet). HasTraceRoom es x.day (length x.sheet.traces)) ss k s c.sheets-test.true
          (All-weaker (λ (x : DatedSheet). HasTraceRoom c.sheets.days.items x.day (length x.sheet.traces)) (λ (x : DatedSheet). HasTraceRoom es x.day (length x.sheet.traces)) (λ x h. room_stays _ es x.day (length x.sheet.traces) c.make_trace_room.ensures.same h) (take k ss) i.room)
          (subst (λ (x : DatedSheet). HasTraceRoom es x.day (length x.sheet.traces)) (get_or_read ss k s c.sheets-test.true c.dated-item.is s) here);
      same = same_days_more _ _ _ i.same c.make_trace_room.ensures.same;
      capacity = c.make_trace_room.ensures.capacity ∙ i.capacity;
    }

pub returns-clause-room : goal.returns-clause-room
returns-clause-room c = subst (λ l. HaveTraceRoom c.sheets.days.items l) (take_all c.sheets.dated-index c.args.sheets.now c.sheets-test.false) c.sheets.invariant.room

pub returns-in_err-make_trace_room-clause-sure : goal.returns-in_err-make_trace_room-clause-sure
returns-in_err-make_trace_room-clause-sure c = λ none.
    let ds = c.args.days.now.items in let ss = c.args.sheets.now in let k = c.sheets.dated-index in let s = c.dated-item.result in
    let here : has_day (shown_days c.sheets.days.items) s.day ≡ false =
    ap (λ l. has_day l s.day) (same_shown _ _ c.sheets.invariant.same) ∙ ap (λ (x : DatedSheet). has_day (shown_days ds) x.day) (get_or_read ss k s c.sheets-test.true c.dated-item.is s) ∙ none k s c.sheets-test.true in
    absurd (false≢true (subst (λ r. IsOk r) c.in_err-make_trace_room.was (c.make_trace_room.ensures.sure here)))
