use Rattle.std.proofs.Common.{◌≡◌, ◌∷◌, ◌++◌, [], length, ap, arith}
use Rattle.std.specs.Vec.Iter.{into_iter_items}
use Rattle.event_table.specs.Gathered.{events_of_tables}
use Rattle.event_table.specs.Numbers.{events_under}
use Rattle.event_table.specs.inner.Renumbering.{whole_events}
use Rattle.event_table.proofs.PartLemmas.{messages_few, parts_more, parts_within, room_for, texts_few}
use Rattle.event_table.proofs.numbering.add_parts.Goals as goal

pub number_part-requires : goal.number_part-requires
number_part-requires c =
    let at = c.loop-part in
    let left = into_iter_items at.part-iterator in
    let rest = into_iter_items c.next.new.self in
    let was = c.args.whole.now in
    let all = events_under was.texts was.messages (whole_events was.parts.items) ++ events_of_tables (into_iter_items c.into_iter-part-iterator.result) in
    let room = room_for at.whole.texts at.whole.messages at.whole.parts.items c.in-Some.part left rest all at.invariant.seen c.in-Some.ensures.steps.0 in
    let few = at.invariant.total in
    (length (whole_events at.whole.parts.items), at.invariant.few, at.invariant.few_messages, omega arith)

pub loop-part-preserved : goal.loop-part-preserved
loop-part-preserved c =
    let at = c.loop-part in
    let table = c.in-Some.part in
    let part = c.in_ok-numbered.numbered in
    let told = c.in_ok-numbered.ensures in
    let left = into_iter_items at.part-iterator in
    let rest = into_iter_items c.next.new.self in
    let was = c.args.whole.now in
    let all = events_under was.texts was.messages (whole_events was.parts.items) ++ events_of_tables (into_iter_items c.into_iter-part-iterator.result) in
    let steps : left ≡ table ∷ rest = c.in-Some.ensures.steps.0 in
    let push : c.push.new.self.items ≡ at.whole.parts.items ++ part ∷ [] = c.in_ok-push.ensures.items in
    let texts = c.number_part.new.whole in
    let messages = c.number_part.new.messages in record {
      seen = parts_more at.whole.texts texts at.whole.messages messages at.whole.parts.items c.push.new.self.items part table left rest all told.texts told.messages at.invariant.within at.invariant.seen steps push told.within told.events;
      within = parts_within at.whole.texts texts at.whole.messages messages at.whole.parts.items c.push.new.self.items part table left rest all told.texts told.messages at.invariant.within at.invariant.seen steps push told.within told.events;
      few = texts_few at.whole.texts texts at.whole.messages messages at.whole.parts.items c.push.new.self.items part table left rest all told.texts told.messages at.invariant.within at.invariant.seen steps push told.within told.events at.invariant.few;
      total = at.invariant.total;
      few_messages = messages_few at.whole.texts texts at.whole.messages messages at.whole.parts.items c.push.new.self.items part table left rest all told.texts told.messages at.invariant.within at.invariant.seen steps push told.within told.events at.invariant.few_messages;
      left =
          let had = at.invariant.left in
          let gone = c.in-Some.ensures.steps.1 in
          let short = ap length steps in
          omega arith;
    }
