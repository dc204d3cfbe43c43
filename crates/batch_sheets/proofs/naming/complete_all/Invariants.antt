use Rattle.std.proofs.Common.{◌≡◌, ◌++◌, List, length}
use Rattle.std.specs.List.{AllZip}
use Rattle.std.specs.Vec.Iter.{into_iter_items, into_iter_len}
use Rattle.trace_types.specs.declared.trace.Trace.{Trace}
use Rattle.batch_sheets.specs.inner.Growth.{AppendsNamed, IsNamedOrNew}
use Rattle.batch_sheets.proofs.naming.complete_all.Given as goal

-- the traces so far are added and named
abbrev pub invariant-loop-one : goal.invariant-loop-one
invariant-loop-one l = record {
  so_far : l.yielded ++ into_iter_items l.one-iterator ≡ into_iter_items l.initial.one-iterator;
  left : into_iter_len l.one-iterator ≡ length (into_iter_items l.one-iterator);
  named : (traces : List Trace) → AllZip (IsNamedOrNew l.fn.catalogue l.grace) traces l.yielded → AppendsNamed l.fn.catalogue l.catalogue l.grace traces l.fn.named.items l.named.items;
}
