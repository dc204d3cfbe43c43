use Rattle.std.proofs.Common.{◌≡◌, ◌+◌, ◌++◌, [], drop, length, take}
use Rattle.std.specs.Vec.Iter.{into_iter_items, into_iter_len}
use Rattle.digest_merging.specs.inner.MergedRows.{mark_by, placed_rows}
use Rattle.digest_merging.proofs.name_merging.rows_by.Given as goal

-- the rows so far, and those that are left
abbrev pub invariant-rows : goal.invariant-rows
invariant-rows l = record {
  left : l.k + into_iter_len l.name-iterator ≡ length l.places;
  counted : into_iter_len l.name-iterator ≡ length (into_iter_items l.name-iterator);
  so_far : l.rows.items ++ placed_rows (mark_by l.first l.second) (take l.k l.places) (into_iter_items l.name-iterator) (drop l.k l.places) ≡ placed_rows (mark_by l.first l.second) [] l.fn.names.items l.places;
}
