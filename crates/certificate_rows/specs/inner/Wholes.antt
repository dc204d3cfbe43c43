-- A whole certificate by number, and what it is of the kept traces.
use Rattle.std.specs.Prelude.{ℕ, ◌+◌, ◌<◌, List, ◌++◌, length}
use Rattle.book_laws.specs.Shown.{AreShown}
use Rattle.counterexamples.specs.FirstRefuters.{FindingTable}
use Rattle.day_partitions.specs.Books.{BookState, KeptDay, all_traces}
use Rattle.segment_names.specs.Known.{Known}
use Rattle.session_rules.specs.CertificateTexts.{why_row}
use Rattle.session_rules.specs.KeptTraces.{Kept}
use Rattle.session_rules.specs.Parts.{IsPart}
use Rattle.session_rules.specs.Refutations.{AreRefutations, Refutations}
use Rattle.session_rules.specs.Sessions.{why_parts}
use Rattle.text_rows.specs.TextsOfParts.{AreTexts}
use Rattle.trace_types.specs.Listing.{ListsExactly}
use Rattle.certificate_rows.specs.declared.kind.Kind.TheVariants.{Before, Exclusive, Pipe}
use Rattle.certificate_rows.specs.inner.Numbered.{kind_count, kind_rows}
use Rattle.certificate_rows.specs.Orders.{name_number_cmp, task_number_cmp}
use Rattle.certificate_rows.specs.inner.Sources.{HasRefuters}

-- how many relations between these names and tasks are refuted
abbrev pub refuted_count : FindingTable → List ℕ → List ℕ → ℕ
refuted_count table names tasks =
    kind_count table Before names + kind_count table Exclusive names + kind_count table Pipe tasks

-- the rows of the refuted relations between these names and tasks
abbrev pub refuted_rows : Known → List KeptDay → FindingTable → List ℕ → List ℕ → List ℕ
refuted_rows known days table names tasks =
    kind_rows known days table Before names
    ++ (kind_rows known days table Exclusive names ++ kind_rows known days table Pipe tasks)

-- the header and these rows
abbrev pub certificate_text : Known → List KeptDay → FindingTable → List ℕ → List ℕ → List ℕ
certificate_text known days table names tasks =
    why_row (length (all_traces days)) (refuted_count table names tasks)
    ++ refuted_rows known days table names tasks

-- the certificate of the names and tasks of a catalogue, in their order, is that of the kept traces
abbrev pub CertificateIsShown : Type 0
CertificateIsShown = (known : Known) (b : BookState) (table : FindingTable)
    (names tasks : List ℕ) (kept : List Kept) (refuted : Refutations) → HasRefuters known b table
    → ListsExactly (name_number_cmp known) (λ n. n < length known.names) names
    → ListsExactly (task_number_cmp known) (λ n. n < length known.tasks) tasks
    → AreShown known (all_traces b.days) kept → AreRefutations kept refuted
    → AreTexts IsPart (why_parts kept refuted) (certificate_text known b.days table names tasks)
