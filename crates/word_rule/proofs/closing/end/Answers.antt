use Rattle.word_rule.proofs.RuleLemmas.{known_all, known_met, ends_with}
use Rattle.word_rule.proofs.closing.end.Goals as goal

pub returns-clause-met : goal.returns-clause-met
returns-clause-met c = let seat = c.args.seat in known_met c.events_keep_sound.ensures c.args.table.shared.key seat.id seat.me.0 _ _ c.close_with.ensures.values.2 c.requires.share c.requires.rests c.requires.whole c.whole_share_knows_all.ensures

pub returns-clause-known : goal.returns-clause-known
returns-clause-known c = let seat = c.args.seat in known_all c.events_keep_sound.ensures c.args.table.shared.key seat.id seat.me.0 _ _ c.close_with.ensures.values.2 c.requires.share c.requires.rests c.requires.whole c.whole_share_knows_all.ensures

pub returns-clause-ends : goal.returns-clause-ends
returns-clause-ends c = let seat = c.args.seat in ends_with c.events_keep_sound.ensures c.args.table.shared.key seat.id seat.me.0 _ _ c.close_with.ensures.values.2 c.requires.share c.requires.rests c.requires.whole
