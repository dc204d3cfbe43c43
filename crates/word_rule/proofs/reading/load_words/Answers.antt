use Rattle.std.proofs.Common.{rules, ◌≡◌, ◌<◌, length, true, ℕ, ap, ◌∙◌, subst}
use Rattle.std.specs.Int.{bit_at}
use Rattle.word_rows.specs.declared.views.View.{View}
use Rattle.word_rows.specs.declared.events.StepEvent.TheVariants.{Load as load}
use Rattle.word_rows.specs.declared.replies.Reply.TheVariants.{Loaded}
use Rattle.word_rows.specs.Changes.{with_reading}
use Rattle.word_rule.specs.Shown.{shows}
use Rattle.word_rule.specs.Histories.{IsLoadBetween}
use Rattle.word_rule.proofs.ReadLemmas.{step_view, step_knows, step_told}
use Rattle.word_rule.proofs.PastLemmas.{between_before, between_after}
use Rattle.word_rule.proofs.reading.load_words.Goals as goal

pub loop-word-preserved : goal.loop-word-preserved
loop-word-preserved c =
    let v = c.args.seat.now.me.0.view in let first = c.args.seat.now.me.0.pasts in
    let into = c.loop-word.into in let i = c.loop-word.word in let x = c.load_word.result in let inv = c.loop-word.invariant in let one = c.load_word.ensures.seat in
    let key = c.args.shared.now.key in let before = c.loop-word.seat.me.0.pasts in let then = c.load_word.new.seat.me.0.pasts in
    let inside : i < length into = search rules in
    record {
      table = search rules;
      view = one.view ∙ ap (λ (u : View). with_reading u i x) inv.view ∙ step_view v into i x inside;
      held = one.held ∙ inv.held;
      shown = step_knows v into i x inside inv.shown (subst (λ (u : View). (b : ℕ) → b < 64 → shows u i b ≡ true → bit_at x b ≡ 0) inv.view one.shown);
      stands = step_told v into i x inside (λ (u : View) (j n : ℕ). IsLoadBetween key.width key.all first u j n then)
          (λ j l. between_after key.width key.all first before then _ (λ seat. load seat j) _ one.more (inv.stands j l))
          (subst (λ (u : View). IsLoadBetween key.width key.all first u i x then) inv.view
          (between_before key.width key.all first before then _ (λ seat. load seat i) (Loaded x) inv.more one.stands));
      more = λ history begins. inv.more history (one.more history begins);
      one = λ _. one.one;
    }
