use Rattle.std.proofs.Common.{rules, ◌≡◌, ◌<◌, ℕ, List, true, length, sym, ap, subst, ◌∙◌}
use Rattle.word_rows.specs.declared.entries.Entry.{Entry}
use Rattle.word_rows.specs.declared.views.View.{View}
use Rattle.word_rows.specs.declared.events.StepEvent.TheVariants.{Clear as clear}
use Rattle.word_rows.specs.declared.replies.Reply.TheVariants.{Cleared}
use Rattle.word_rows.specs.Changes.{is_idle, next_view}
use Rattle.word_rows.specs.Machine.{can_clear}
use Rattle.word_rule.specs.Histories.{IsClearBetween, offered_until}
use Rattle.word_rule.proofs.OfferLemmas.{next, one_told}
use Rattle.word_rule.proofs.PastLemmas.{between_before, between_after}
use Rattle.word_rule.proofs.tables.MeetTable.offer.Goals as goal

pub offer_entry-requires-clause-at : goal.offer_entry-requires-clause-at
offer_entry-requires-clause-at c = let v = c.args.pass.now.view in let row = c.args.row.now in let at = c.loop-at.at in
    let rests : is_idle v ≡ true = search rules in
    (next c.row_is_same.ensures v row rests at (subst (λ (l : List Entry). at < length l) c.entries-entries.ensures.same c.loop-at-test.true)).cleared ∙ ap (λ (u : View). u.cleared) (sym c.loop-at.invariant.view)

pub offer_entry-requires-clause-next : goal.offer_entry-requires-clause-next
offer_entry-requires-clause-next c = let v = c.args.pass.now.view in let entries = c.entries-entries.result.now in let row = c.args.row.now in let at = c.loop-at.at in
    let same : entries ≡ row = c.entries-entries.ensures.same in
    let rests : is_idle v ≡ true = search rules in
    ap (λ (u : View). can_clear u entries) c.loop-at.invariant.view ∙ ap (λ (l : List Entry). can_clear (offered_until v row at) l) same
    ∙ (next c.row_is_same.ensures v row rests at (subst (λ (l : List Entry). at < length l) same c.loop-at-test.true)).can

pub loop-at-preserved : goal.loop-at-preserved
loop-at-preserved c =
    let v = c.args.pass.now.view in let first = c.args.pass.now.pasts in let entries = c.entries-entries.result.now in let row = c.args.row.now in
    let at = c.loop-at.at in let inv = c.loop-at.invariant in let step = c.offer_entry.ensures.seat in
    let key = c.self.inside.table.shared.key in let before = c.loop-at.pass-inside.seat.me.0.pasts in let then = c.offer_entry.new.seat.me.0.pasts in let u = c.loop-at.pass-inside.seat.me.0.view in
    let w = c.args.self.now.width in let a = c.args.self.now.all in
    let same : entries ≡ row = c.entries-entries.ensures.same in
    let rests : is_idle v ≡ true = search rules in
    let more = (next c.row_is_same.ensures v row rests at (subst (λ (l : List Entry). at < length l) same c.loop-at-test.true)).more in
    let width : key.width ≡ w = search rules in
    let all : key.all ≡ a = search rules in
    let told : IsClearBetween w a before u row then =
    subst (λ (l : List Entry). IsClearBetween w a before u l then) same
    (subst (λ (n : ℕ). IsClearBetween w n before u entries then) all
    (subst (λ (n : ℕ). IsClearBetween n key.all before u entries then) width step.stands)) in
    record {
      table = c.offer_entry.ensures.table ∙ inv.table;
      shares = inv.shares;
      view = step.view ∙ ap (λ (x : View). next_view x entries) inv.view ∙ ap (next_view (offered_until v row at)) same ∙ more;
      held = step.held ∙ inv.held;
      stands = one_told (λ (x : View). IsClearBetween w a first x row then) v u row at inv.view
          (λ k l. let o = inv.stands k l in (o.0, between_after w a first before then _ (λ seat. clear seat row) (Cleared o.0) step.more o.1))
          (told.0, between_before w a first before then _ (λ seat. clear seat row) (Cleared told.0) inv.more told.1);
      more = λ history begins. inv.more history (step.more history begins);
      one = λ _. step.one;
    }
