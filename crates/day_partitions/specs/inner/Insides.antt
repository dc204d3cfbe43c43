-- What the fields of a book stand for.
use Rattle.std.specs.Prelude.{◌≡◌, ◌≤◌, vec_capacity}
use Rattle.hypothesis_index.specs.Places.{width_of}
use Rattle.day_partitions.specs.Books.{BookState, book, IsBook}
use Rattle.day_partitions.specs.inner.Slots.{AreInSlots, shown_days}
use Rattle.day_partitions.specs.declared.day_book.DayBook.TheInside.{Inside}

-- the book that these fields stand for
abbrev pub book_of : Inside → BookState
book_of a = book (shown_days a.days.items) a.names a.tree.spare

-- the fields of a book fit together, and there is room for 64 days
pub record AreFields (a : Inside) : Type 0 where
  pub width : a.tree.width ≡ width_of a.names
  pub slots : AreInSlots a.tree a.days.items
  pub kept : IsBook (book_of a)
  pub capacity : 64 ≤ vec_capacity a.days
