-- What a book with a journal keeps between calls.
use Rattle.std.specs.Prelude.{◌≡◌, List}
use Rattle.day_partitions.specs.Books.{BookState}
use Rattle.live_journal.specs.declared.entry.Entry.{Entry}
use Rattle.live_journal.specs.Replays.{IsJournal, replay}

-- the book keeps the days of the replay of its journal
pub record IsReplay (book : BookState) (entries : List Entry) : Type 0 where
  pub days : book.days ≡ replay entries
  pub journal : IsJournal entries
