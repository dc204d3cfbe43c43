use Rattle.std.proofs.Common.{rules, ◌≡◌, ℕ, slice_index, subst}
use Rattle.word_rule.specs.Histories.{WasCleared, read_until}
use Rattle.word_rule.proofs.PastLemmas.{loaded_cleared}
use Rattle.word_rule.proofs.tables.MeetTable.read.Goals as goal

pub returns-clause-cleared : goal.returns-clause-cleared
returns-clause-cleared c i b h l z history begins =
    let key = c.self.inside.table.shared.key in let into = c.load_words.new.into in let x = slice_index into i in let w = c.args.self.now.width in let a = c.args.self.now.all in
    let width : key.width ≡ w = search rules in
    let all : key.all ≡ a = search rules in
    subst (λ (n : ℕ). WasCleared n a history i x b) width
    (subst (λ (n : ℕ). WasCleared key.width n history i x b) all
    (loaded_cleared c.events_keep_sound.ensures key.width key.all i x b c.pass.inside.seat.me.0.pasts (read_until c.pass.inside.seat.me.0.view into i) history (c.load_words.ensures.stands i h history begins) l z))
