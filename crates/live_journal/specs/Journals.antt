-- What a contract sees of a book with a journal.
use Rattle.std.specs.Prelude.{ℕ, List, [], ◌∷◌, ◌++◌}
use Rattle.live_journal.specs.declared.entry.Entry.{Entry}

-- the number of names, and the entries so far; the kept days are their replay
pub record JournalState : Type 0 where
  pub names : ℕ
  pub entries : List Entry

-- the book with these fields
abbrev pub journal : ℕ → List Entry → JournalState
journal names entries = record { names = names; entries = entries }

-- the book with one entry more
abbrev pub with_entry : JournalState → Entry → JournalState
with_entry j e = journal j.names (j.entries ++ e ∷ [])
