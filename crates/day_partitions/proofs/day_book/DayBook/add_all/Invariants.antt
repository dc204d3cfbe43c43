use Rattle.day_partitions.proofs.day_book.DayBook.add_all.Given as goal

abbrev pub ghosts-add_all_from : goal.ghosts-add_all_from
ghosts-add_all_from a = record { name = a.blank.name; parts = a.blank.parts }
