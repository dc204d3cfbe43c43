use Rattle.std.proofs.Common.{◌∙◌}
use Rattle.segment_names.specs.inner.Filing.{known_in}
use Rattle.segment_names.proofs.NotingLemmas.{noted_more, noted_none, grows_none, grows_more}
use Rattle.segment_names.proofs.tables.Tables.note_all.Goals as goal

pub loop-segment-init : goal.loop-segment-init
loop-segment-init c = record {
  filed = c.requires;
  grown = grows_none c.args.self.now;
  noted = noted_none (known_in c.args.self.now) c.requires.names_differ c.requires.tasks_differ;
}

pub loop-segment-preserved : goal.loop-segment-preserved
loop-segment-preserved c = let v = c.loop-segment.invariant in record {
  filed = c.in_ok-note.ensures.filed;
  grown = grows_more c.args.self.now c.loop-segment.self c.note.new.self v.grown c.in_ok-note.ensures.grown;
  noted = c.in_ok-note.ensures.noted ∙ noted_more (known_in c.args.self.now) (known_in c.loop-segment.self) c.args.segments.now c.loop-segment.segment-index c.segment-item.result v.filed.names_differ v.filed.tasks_differ v.noted c.loop-segment-test.true c.segment-item.is;
}
