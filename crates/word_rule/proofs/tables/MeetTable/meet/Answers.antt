use Rattle.std.proofs.Common.{rules, ◌≡◌, ℕ, sym, subst}
use Rattle.atomic_table.specs.Table.{Me}
use Rattle.word_rule.specs.declared.rule.Knowledge.{Knowledge}
use Rattle.word_rule.specs.Histories.{IsOfOneHistory}
use Rattle.word_rule.proofs.tables.MeetTable.meet.Goals as goal

pub returns-clause-one : goal.returns-clause-one
returns-clause-one c =
    let key = c.self.inside.table.shared.key in let told = c.tell_seat.ensures.seat in let me = c.tell_seat.new.seat.me in let w = c.args.self.now.width in let a = c.args.self.now.all in
    let width : key.width ≡ w = search rules in
    let all : key.all ≡ a = search rules in
    subst (λ (n : ℕ). IsOfOneHistory n a me.0.pasts me.0.view) width
    (subst (λ (n : ℕ). IsOfOneHistory key.width n me.0.pasts me.0.view) all
    (subst (λ (m : Me (Unit {0}) Knowledge). IsOfOneHistory key.width key.all m.0.pasts m.0.view) (sym told.same) told.one))
