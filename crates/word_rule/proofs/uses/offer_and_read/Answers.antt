use Rattle.std.proofs.Common.{rules, ◌≡◌, ℕ, List, ◌++◌, length, take, drop, sym, subst}
use Rattle.std.proofs.lemmas.List.{take_at}
use Rattle.word_rule.specs.Uses.{HasOfferedAndRead}
use Rattle.word_rule.proofs.UseLemmas.{has_offered}
use Rattle.word_rule.proofs.uses.offer_and_read.Goals as goal

pub returns : goal.returns
returns c =
    let words : List ℕ = c.read.new.into in
    let long : length words ≡ c.args.into.len = search rules in
    let same : take c.args.into.len (words ++ drop (length words) c.args.into.items) ≡ words = take_at words (drop (length words) c.args.into.items) c.args.into.len long in
    subst (λ (ws : List ℕ). HasOfferedAndRead c.args.table.now c.args.pass c.args.row.now ws c.read.new.pass) (sym same)
    (has_offered c.args.table.now c.args.pass c.offer.new.pass c.read.new.pass c.args.row.now words c.offer.ensures.table c.offer.ensures.done c.offer.ensures.stands c.offer.ensures.one
    c.read.ensures.table c.read.ensures.readings c.read.ensures.shown c.read.ensures.stands c.read.ensures.more)
