-- What is matched with texts of the catalogue is a number of it.
use Rattle.std.proofs.Common.{◌≡◌, ◌↔◌, ℕ, List, get_or, Option, Some, MatchOption, Contains, slice_get, subst}
use Rattle.std.specs.List.{enumerate_from}
use Rattle.std.specs.Option.{IsSomeAnd}
use Rattle.std.proofs.lemmas.Option.{slice_get-get_or, slice_get_within}
use Rattle.std.proofs.lemmas.Slice.Zip.{AllZip-left}
use Rattle.trace_types.specs.declared.named_segment.NamedSegment.{NamedSegment}
use Rattle.trace_types.specs.declared.named_trace.NamedTrace.{NamedTrace}
use Rattle.trace_types.specs.declared.trace.Trace.{Trace}
use Rattle.trace_types.specs.Parts.{by_number, by_text}
use Rattle.trace_types.specs.Renaming.{IsSegmentRenamed}
use Rattle.trace_types.proofs.MatchLemmas.{some_and}
use Rattle.segment_names.specs.Known.{Known}
use Rattle.segment_names.specs.Naming.{HasKnownNumbers, IsNamed}

-- numbering a list matches each number with what stands there
abbrev pub Numbers : {X : Type 0} → List X → Type 0
Numbers {X} xs = (k : ℕ) (x : X) → Contains (enumerate_from 0 xs) (k, x) ↔ (slice_get xs k ≡ Some x)

pub named_below : (known : Known) (named : NamedTrace) (trace : Trace) → Numbers known.names → Numbers known.tasks → IsNamed known named trace → HasKnownNumbers known named
named_below known named trace names tasks is k d lt =
    let got : slice_get named.segments k ≡ Some (get_or named.segments k d) = slice_get-get_or named.segments k d lt in
    let there = subst (λ (o : Option NamedSegment). MatchOption o (Unit {0}) (λ v. IsSomeAnd (slice_get trace.segments k) (IsSegmentRenamed by_number by_text (enumerate_from 0 known.names) (enumerate_from 0 known.tasks) is.elements v))) got (AllZip-left (IsSegmentRenamed by_number by_text (enumerate_from 0 known.names) (enumerate_from 0 known.tasks) is.elements) named.segments trace.segments is.segments k) in
    let (s, at, same) = some_and (slice_get trace.segments k) (IsSegmentRenamed by_number by_text (enumerate_from 0 known.names) (enumerate_from 0 known.tasks) is.elements (get_or named.segments k d)) there in
    (slice_get_within known.names _ _ ((names _ _).0 same.name), slice_get_within known.tasks _ _ ((tasks _ _).0 same.task))
