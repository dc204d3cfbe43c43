use Rattle.std.proofs.Common.{◌≡◌, ◌++◌, map}
use Rattle.std.specs.Vec.Iter.{into_iter_items}
use Rattle.span_files.specs.InputSpans.{place_in, span_of}
use Rattle.span_files.proofs.file_spans.FileSpans.append.Given as goal

-- the spans so far, and those that are left
abbrev pub invariant-spans : goal.invariant-spans
invariant-spans l = record {
  spans : l.self.spans.items ++ map span_of (into_iter_items l.placed-iterator) ≡ l.fn.self.spans.items ++ map span_of l.fn.file.items;
  places : l.self.places.items ++ map (place_in l.index) (into_iter_items l.placed-iterator) ≡ l.fn.self.places.items ++ map (place_in l.index) l.fn.file.items;
}
