use Rattle.word_rule.proofs.tables.MeetTable.split.Given as goal

abbrev pub ghosts-split_shares : goal.ghosts-split_shares
ghosts-split_shares a = record { count = a.count }
