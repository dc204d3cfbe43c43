-- What a contract sees of a book of days with the catalogue of its names.
use Rattle.std.specs.Prelude.{◌≡◌, List, [], length}
use Rattle.day_partitions.specs.Books.{BookState, IsBook, all_traces, with_names}
use Rattle.day_partitions.specs.Books as books
use Rattle.segment_names.specs.Known.{Known}
use Rattle.segment_names.specs.Limits.{IsKept}
use Rattle.trace_types.specs.declared.named_trace.NamedTrace.{NamedTrace}

-- the catalogue of names and tasks, and the book of days
pub record KeptState : Type 0 where
  pub known : Known
  pub book : BookState

-- what every such book keeps: room for exactly the names of the catalogue, at most 512, and what
-- each book of days and each catalogue keeps
pub record IsKeptBook (k : KeptState) : Type 0 where
  pub names : k.book.names ≡ length k.known.names
  pub book : IsBook k.book
  pub known : IsKept k.known

-- the kept traces, by day, and within a day in the order in which they were taken
abbrev pub traces_in : KeptState → List NamedTrace
traces_in k = all_traces k.book.days

-- the book without names and days
abbrev pub empty_book : KeptState
empty_book = record { known = record { names = []; tasks = [] }; book = books.book [] 0 0 }

-- a book of days under a catalogue, with room for exactly its names
abbrev pub under_catalogue : Known → BookState → KeptState
under_catalogue known b = record { known = known; book = with_names b (length known.names) }

-- the same catalogue with another book of days
abbrev pub with_book : KeptState → BookState → KeptState
with_book k b = record { known = k.known; book = b }
