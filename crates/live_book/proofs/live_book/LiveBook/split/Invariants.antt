use Rattle.live_book.proofs.live_book.LiveBook.split.Given as goal

abbrev pub ghosts-split_turns : goal.ghosts-split_turns
ghosts-split_turns a = record { count = a.count }
