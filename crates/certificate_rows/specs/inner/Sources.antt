-- What a certificate is printed of, and which numbers and findings it may be asked for.
use Rattle.std.specs.Prelude.{ℕ, List, length}
use Rattle.counterexamples.specs.Findings.{StandsAt}
use Rattle.counterexamples.specs.FirstRefuters.{AreFirstRefuters, FindingTable}
use Rattle.counterexamples.specs.declared.finding.Finding.{Finding}
use Rattle.day_partitions.specs.Books.{BookState, KeptDay}
use Rattle.kept_books.specs.KeptBooks.{IsKeptBook}
use Rattle.segment_names.specs.Known.{Known}
use Rattle.trace_types.specs.declared.named_trace.NamedTrace.{NamedTrace}
use Rattle.certificate_rows.specs.declared.kind.Kind.{Kind}
use Rattle.certificate_rows.specs.declared.kind.Kind.TheVariants.{Before, Exclusive, Pipe}
use Rattle.certificate_rows.specs.declared.source.Source.{Source}

-- how many numbers a catalogue has for a kind of relations
abbrev pub count_of : Known → Kind → ℕ
count_of known Before = length known.names
count_of known Exclusive = length known.names
count_of known Pipe = length known.tasks

-- the book has what every book keeps under its catalogue, and the table has the first refuters of
-- its traces
pub record HasRefuters (known : Known) (b : BookState) (table : FindingTable) : Type 0 where
  pub kept : IsKeptBook (record { known = known; book = b })
  pub first : AreFirstRefuters b.names b.days table

-- so it is with what a certificate is printed of
abbrev pub IsSource : Source → Type 0
IsSource s = HasRefuters s.book.now.known s.book.now.book s.refuters.now

-- a trace is kept there
abbrev pub IsKeptThere : List KeptDay → Finding → Type 0
IsKeptThere days f = (trace : NamedTrace) × StandsAt days f trace
