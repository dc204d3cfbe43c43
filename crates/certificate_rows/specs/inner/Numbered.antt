-- The rows of a certificate whose names and tasks are numbers of a catalogue.
use Rattle.std.specs.Prelude.{ℕ, Option, Some, None, List, [], ◌∷◌, ◌++◌, length, codes, decimal}
use Rattle.std.specs.Prelude.{option_and_then, slice_get}
use Rattle.std.specs.List.{flat_map}
use Rattle.certificates.specs.declared.matter.Matter.{Matter}
use Rattle.certificates.specs.declared.matter.Matter.TheVariants as matter
use Rattle.counterexamples.specs.declared.finding.Finding.{Finding}
use Rattle.counterexamples.specs.FirstRefuters.{FindingTable}
use Rattle.day_partitions.specs.Books.{KeptDay}
use Rattle.segment_names.specs.Known.{Known}
use Rattle.session_rules.specs.CertificateTexts.{matter_fields}
use Rattle.text_rows.specs.Rows.{row_of}
use Rattle.trace_types.specs.declared.named_trace.NamedTrace.{NamedTrace}
use Rattle.certificate_rows.specs.declared.kind.Kind.{Kind}
use Rattle.certificate_rows.specs.declared.kind.Kind.TheVariants.{Before, Exclusive, Pipe}
use Rattle.certificate_rows.specs.Orders.{numbered_name, numbered_task}
use Rattle.certificate_rows.specs.inner.Pairs.{pairs_of, refuted_pairs, refuter_between}

-- the relation of a kind between two numbers, by their texts
abbrev pub matter_between : Known → Kind → ℕ → ℕ → Matter
matter_between known Before one other =
    matter.Before (numbered_name known one) (numbered_name known other)
matter_between known Exclusive one other =
    matter.Exclusive (numbered_name known one) (numbered_name known other)
matter_between known Pipe one other = matter.Pipe (numbered_task known one) (numbered_task known other)

-- the row of a relation with the day, the index and the request of a trace
abbrev pub place_row : Matter → ℕ → ℕ → List ℕ → List ℕ
place_row matter day index request =
    row_of (codes "refuted" ∷ (matter_fields matter
    ++ decimal day ∷ decimal index ∷ request ∷ []))

-- the row of a relation that this trace refutes, which has this index among those of its day
abbrev pub refuted_by_row : Matter → NamedTrace → ℕ → List ℕ
refuted_by_row matter trace index = place_row matter trace.day index trace.request

-- the trace that is kept there
abbrev pub trace_at : List KeptDay → Finding → Option NamedTrace
trace_at days f =
    option_and_then (λ (k : KeptDay). slice_get k.traces f.index) (slice_get days f.place)

-- the row of a relation and the trace that is kept there
abbrev pub refuter_row : Matter → ℕ → Option NamedTrace → List ℕ
refuter_row matter index None = []
refuter_row matter index (Some trace) = refuted_by_row matter trace index

-- the row of a relation and its first refuter; none where it has none
abbrev pub row_of_finding : List KeptDay → Matter → Option Finding → List ℕ
row_of_finding days matter None = []
row_of_finding days matter (Some f) = refuter_row matter f.index (trace_at days f)

-- the row of a pair
abbrev pub row_of_pair : Known → List KeptDay → FindingTable → Kind → ℕ × ℕ → List ℕ
row_of_pair known days table kind p =
    row_of_finding days (matter_between known kind p.0 p.1) (refuter_between table kind p.0 p.1)

-- the rows of all pairs of a kind
abbrev pub kind_rows : Known → List KeptDay → FindingTable → Kind → List ℕ → List ℕ
kind_rows known days table kind numbers =
    flat_map (row_of_pair known days table kind) (pairs_of kind numbers numbers)

-- how many pairs of a kind are refuted
abbrev pub kind_count : FindingTable → Kind → List ℕ → ℕ
kind_count table kind numbers = length (refuted_pairs table kind (pairs_of kind numbers numbers))
