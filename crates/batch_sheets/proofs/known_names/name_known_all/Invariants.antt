use Rattle.std.proofs.Common.{◌≡◌, ◌++◌, length, map}
use Rattle.std.specs.List.{AllZip}
use Rattle.std.specs.Vec.Iter.{into_iter_items, into_iter_len}
use Rattle.batch_sheets.specs.Named.{cut_trace}
use Rattle.batch_sheets.specs.inner.Growth.{IsNamedOrNew}
use Rattle.batch_sheets.proofs.known_names.name_known_all.Given as goal

-- the traces so far are named or new
abbrev pub invariant-loop-trace : goal.invariant-loop-trace
invariant-loop-trace l = record {
  so_far : l.yielded ++ into_iter_items l.trace-iterator ≡ into_iter_items l.initial.trace-iterator;
  left : into_iter_len l.trace-iterator ≡ length (into_iter_items l.trace-iterator);
  known : l.namer.known ≡ l.catalogue;
  texts : l.namer.texts ≡ l.texts;
  named : AllZip (IsNamedOrNew l.catalogue l.grace) (map cut_trace l.yielded) l.list.items;
}
