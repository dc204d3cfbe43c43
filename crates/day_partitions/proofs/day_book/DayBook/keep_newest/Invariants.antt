use Rattle.day_partitions.proofs.day_book.DayBook.keep_newest.Given as goal

abbrev pub ghosts-keep_from : goal.ghosts-keep_from
ghosts-keep_from a = record { name = a.blank.name; parts = a.blank.parts }
