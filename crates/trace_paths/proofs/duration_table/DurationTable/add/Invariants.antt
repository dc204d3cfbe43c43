use Rattle.std.proofs.Common.{◌≡◌, ◌++◌, List, length, take}
use Rattle.trace_paths.specs.Tables.{IsTableOf}
use Rattle.trace_types.specs.declared.named_segment.NamedSegment.{NamedSegment}
use Rattle.trace_paths.proofs.TableLemmas.{shown}
use Rattle.trace_paths.proofs.duration_table.DurationTable.add.Given as goal

abbrev pub invariant-segments : goal.invariant-segments
invariant-segments l = record {
  count : length (shown l.self-inside.lists.items) ≡ length l.fn.self;
  told : (before : List NamedSegment) → IsTableOf (length l.fn.self) before l.fn.self
      → IsTableOf (length l.fn.self) (before ++ take l.segment-index l.segments) (shown l.self-inside.lists.items);
}
