use Rattle.word_rule.proofs.tables.MeetTable.join.Given as goal

abbrev pub ghosts-tell_seat : goal.ghosts-tell_seat
ghosts-tell_seat a = record { plan = a.shared.now.key }
