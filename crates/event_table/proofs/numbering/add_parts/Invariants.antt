use Rattle.std.proofs.Common.{◌≡◌, ◌<◌, ◌^◌, ◌++◌, All, length}
use Rattle.std.specs.Vec.Iter.{into_iter_items, into_iter_len}
use Rattle.event_table.specs.Gathered.{events_of_tables}
use Rattle.event_table.specs.Numbers.{events_under}
use Rattle.event_table.specs.inner.Tables.{AreWithin}
use Rattle.event_table.specs.inner.Growth.{AreFewMessages, AreFewTexts}
use Rattle.event_table.specs.inner.Renumbering.{whole_events}
use Rattle.event_table.proofs.numbering.add_parts.Given as goal

-- the parts so far are numbered behind those before the loop, and those that are left have the
-- other events
abbrev pub invariant-loop-part : goal.invariant-loop-part
invariant-loop-part l = record {
  seen : events_under l.whole.texts l.whole.messages (whole_events l.whole.parts.items) ++ events_of_tables (into_iter_items l.part-iterator) ≡ events_under l.initial.whole.texts l.initial.whole.messages (whole_events l.initial.whole.parts.items) ++ events_of_tables (into_iter_items l.initial.part-iterator);
  within : All (AreWithin l.whole.texts l.whole.messages) (whole_events l.whole.parts.items);
  few : AreFewTexts (length (whole_events l.whole.parts.items)) l.whole.texts;
  few_messages : AreFewMessages (length (whole_events l.whole.parts.items)) l.whole.messages;
  total : length (events_under l.initial.whole.texts l.initial.whole.messages (whole_events l.initial.whole.parts.items) ++ events_of_tables (into_iter_items l.initial.part-iterator)) < 2 ^ 32;
  left : into_iter_len l.part-iterator ≡ length (into_iter_items l.part-iterator);
}
