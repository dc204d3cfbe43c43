use Rattle.std.proofs.Common.{◌≡◌, ◌∙◌, ◌∷◌, sym, ap, subst, arith, length}
use Rattle.std.proofs.lemmas.List.{length-map}
use Rattle.std.specs.Vec.Iter.{into_iter_items}
use Rattle.day_partitions.specs.Books.{BookState, IsBook, book, with_day_traces}
use Rattle.day_partitions.specs.Batches.{AreSheetsFor, HasRoomFor, new_days, with_all}
use Rattle.day_partitions.specs.inner.Insides.{book_of}
use Rattle.day_partitions.specs.inner.Rooms.{HaveTraceRoom}
use Rattle.day_partitions.specs.inner.Slots.{shown, shown_days}
use Rattle.day_partitions.specs.inner.Trees.{TreeState, with_spare_rows}
use Rattle.day_partitions.proofs.AddLemmas.{view_same, slots_same}
use Rattle.day_partitions.proofs.BatchLemmas.{CanTake, all_spare, can_begin, days_fit, take_room, take_width, taken}
use Rattle.day_partitions.proofs.RoomLemmas.{same_shown}
use Rattle.day_partitions.proofs.day_book.DayBook.add_all_from.Goals as goal

pub overflow_cast-result : goal.overflow_cast-result
overflow_cast-result g c =
    let a = c.self.inside in
    let sheets = subst (λ (b : BookState). AreSheetsFor b c.args.sheets.items) (sym c.self.view_is) c.requires.sheets in
    let few = days_fit (book_of a) c.args.sheets.items c.self.invariant.kept sheets in
    let count : c.count_new-new.result ≡ new_days (shown_days a.days.items) c.args.sheets.items = c.count_new-new.ensures.count ∙ ap (λ l. new_days (shown_days l) c.deref-2.result.now) c.deref.ensures.value ∙ ap (new_days (shown_days a.days.items)) c.deref-2.ensures.value in
    omega (arith, few, count, c.len.ensures, a.days.ok.0, length-map a.days.items shown)

pub invariant_of-self : goal.invariant_of-self
invariant_of-self g c =
    let a = c.self.inside in
    record {
      width = ap (λ (t : TreeState). t.width) c.in_default.ensures.err ∙ c.self.invariant.width;
      slots = slots_same _ _ _ _ c.self.invariant.slots c.in_default.ensures.err c.make_rooms.ensures.same;
      kept = subst (λ b. IsBook b) (sym (view_same a.names a.tree c.make_rooms.new.tree a.days.items c.make_rooms.new.days.items c.in_default.ensures.err c.make_rooms.ensures.same)) c.self.invariant.kept;
      capacity = omega (arith, c.self.invariant.capacity, c.make_rooms.ensures.capacity);
    }

pub returns-in_default-clause-unchanged : goal.returns-in_default-clause-unchanged
returns-in_default-clause-unchanged g c =
    let a = c.self.inside in
    view_same a.names a.tree c.make_rooms.new.tree a.days.items c.make_rooms.new.days.items c.in_default.ensures.err c.make_rooms.ensures.same ∙ c.self.view_is

pub sheets-init : goal.sheets-init
sheets-init g c =
    let a = c.self.inside in
    let ss = c.args.sheets.items in
    let gives = c.into_iter-dated-iterator.ensures.into_iter_gives in
    let count : c.count_new-new.result ≡ new_days (shown_days a.days.items) ss = c.count_new-new.ensures.count ∙ ap (λ l. new_days (shown_days l) c.deref-2.result.now) c.deref.ensures.value ∙ ap (new_days (shown_days a.days.items)) c.deref-2.ensures.value in
    let sheets = subst (λ (b : BookState). AreSheetsFor b ss) (sym c.self.view_is) c.requires.sheets in
    let few : HasRoomFor (book_of a) ss = omega (arith, c.if-days-gt64.false, count, c.len.ensures, a.days.ok.0, length-map a.days.items shown) in
    let rows : c.make_rooms.new.tree ≡ with_spare_rows a.tree (new_days (shown_days a.days.items) ss) = c.in-Ok.ensures.rows ∙ ap (with_spare_rows a.tree) count in
    let room : HaveTraceRoom c.make_rooms.new.days.items ss = subst (λ l. HaveTraceRoom c.make_rooms.new.days.items l) c.deref-3.ensures.value c.in-Ok.ensures.room in
    let ready = can_begin a.names a.tree c.make_rooms.new.tree a.days.items c.make_rooms.new.days.items ss c.self.invariant.width c.self.invariant.slots c.self.invariant.kept sheets few c.make_rooms.ensures.same rows room in
    record {
      ready = subst (λ l. CanTake a.names c.make_rooms.new.tree c.make_rooms.new.days.items l) (sym gives.0) ready;
      capacity = omega (arith, c.self.invariant.capacity, c.make_rooms.ensures.capacity);
      leads =
          ap (λ l. with_all (book (shown_days c.make_rooms.new.days.items) a.names c.make_rooms.new.tree.spare) l) gives.0
          ∙ ap (λ l. with_all (book l a.names c.make_rooms.new.tree.spare) ss) (same_shown a.days.items c.make_rooms.new.days.items c.make_rooms.ensures.same)
          ∙ ap (λ (t : TreeState). with_all (book (shown_days a.days.items) a.names t.spare) ss) rows
          ∙ all_spare (shown_days a.days.items) a.names a.tree.spare ss sheets.rising
          ∙ ap (λ b. with_all b ss) c.self.view_is;
      left = omega (arith, ap length gives.0, gives.1, c.args.sheets.ok.0);
    }

pub take_in-requires-clause-width : goal.take_in-requires-clause-width
take_in-requires-clause-width g c =
    let i = c.sheets.invariant in let a = c.sheets.self-inside in
    let steps : into_iter_items c.sheets.dated-iterator ≡ c.in-Some.dated ∷ into_iter_items c.next.new.self = c.in-Some.ensures.steps.0 in
    take_width a.names a.tree a.days.items c.in-Some.dated (into_iter_items c.next.new.self) (subst (λ l. CanTake a.names a.tree a.days.items l) steps i.ready)

pub take_in-requires-clause-room : goal.take_in-requires-clause-room
take_in-requires-clause-room g c =
    let i = c.sheets.invariant in let a = c.sheets.self-inside in
    let steps : into_iter_items c.sheets.dated-iterator ≡ c.in-Some.dated ∷ into_iter_items c.next.new.self = c.in-Some.ensures.steps.0 in
    take_room a.names a.tree a.days.items c.in-Some.dated (into_iter_items c.next.new.self) (subst (λ l. CanTake a.names a.tree a.days.items l) steps i.ready)

pub sheets-preserved : goal.sheets-preserved
sheets-preserved g c =
    let i = c.sheets.invariant in let a = c.sheets.self-inside in
    let s = c.in-Some.dated in
    let rest = into_iter_items c.next.new.self in
    let steps : into_iter_items c.sheets.dated-iterator ≡ s ∷ rest = c.in-Some.ensures.steps.0 in
    let t = c.take_in.ensures in
    record {
      ready = taken a.names a.tree c.take_in.new.tree a.days.items c.take_in.new.days.items s rest (subst (λ l. CanTake a.names a.tree a.days.items l) steps i.ready) t.slots t.days t.width t.spare t.others;
      capacity = t.capacity;
      leads =
          ap (λ l. with_all (book l a.names c.take_in.new.tree.spare) rest) t.days
          ∙ ap (λ n. with_all (book (with_day_traces s.day s.sheet.traces (shown_days a.days.items)) a.names n) rest) t.spare
          ∙ sym (ap (with_all (book (shown_days a.days.items) a.names a.tree.spare)) steps) ∙ i.leads;
      left = (let was = i.left in let gone = c.in-Some.ensures.steps.1 in let short = ap length steps in omega arith);
    }
