use Rattle.live_book.proofs.turns.commit_turn.Given as goal

abbrev pub ghosts-commit : goal.ghosts-commit
ghosts-commit a = record { entries = a.book.now.entries }
