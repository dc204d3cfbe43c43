-- The tests of texts and of names tell equality.
use Rattle.std.proofs.Common.{◌≡◌, true, ◌&&◌, refl}
use Rattle.std.specs.Str.{bytes_eq}
use Rattle.std.proofs.lemmas.Bool.{and_parts}
use Rattle.trace_types.specs.Segments.{SegmentName}
use Rattle.trace_types.proofs.ComparingLemmas.{text_means, text_own}
use Rattle.segment_names.specs.Known.{same_name}

pub name_means : (x y : SegmentName) → same_name x y ≡ true → x ≡ y
name_means x y h =
    let p = and_parts (bytes_eq x.0 y.0) (bytes_eq x.1 y.1 && bytes_eq x.2 y.2) h in
    let q = and_parts (bytes_eq x.1 y.1) (bytes_eq x.2 y.2) p.1 in
    λ k. (text_means x.0 y.0 p.0 k, text_means x.1 y.1 q.0 k, text_means x.2 y.2 q.1 k)

pub name_own : (x : SegmentName) → same_name x x ≡ true
name_own x = rw (text_own x.0, text_own x.1, text_own x.2) refl
