use Rattle.live_book.proofs.LawLemmas.{fronts_agree, one_is_in_turn, positions_differ, positions_stand, tickets_differ, turns_agree}
use Rattle.live_book.proofs.laws.rule_says.Goals as goal

pub returns : goal.returns
returns c = record { fronts = fronts_agree; tickets = tickets_differ; turn = one_is_in_turn; positions = positions_differ; stand = positions_stand; turns = turns_agree }
