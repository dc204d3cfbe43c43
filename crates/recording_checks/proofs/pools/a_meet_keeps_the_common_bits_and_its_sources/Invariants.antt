use Rattle.recording_checks.proofs.pools.a_meet_keeps_the_common_bits_and_its_sources.Given as goal

abbrev pub ghosts-meet_with : goal.ghosts-meet_with
ghosts-meet_with g a = record { name = a.blank.name; parts = a.blank.parts }
