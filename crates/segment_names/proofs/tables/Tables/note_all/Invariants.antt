use Rattle.std.proofs.Common.{◌≡◌, take}
use Rattle.segment_names.specs.Known.{with_segments}
use Rattle.segment_names.specs.inner.Filing.{AreFiled, Grows, known_in}
use Rattle.segment_names.proofs.tables.Tables.note_all.Given as goal

abbrev pub invariant-loop-segment : goal.invariant-loop-segment
invariant-loop-segment l = record {
  filed : AreFiled l.self;
  grown : Grows l.fn.self l.self;
  noted : known_in l.self ≡ with_segments (known_in l.fn.self) (take l.segment-index l.segments);
}
