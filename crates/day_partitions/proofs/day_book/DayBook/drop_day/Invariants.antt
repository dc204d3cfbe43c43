use Rattle.day_partitions.proofs.day_book.DayBook.drop_day.Given as goal

abbrev pub ghosts-drop_from : goal.ghosts-drop_from
ghosts-drop_from a = record { name = a.blank.name; parts = a.blank.parts }
