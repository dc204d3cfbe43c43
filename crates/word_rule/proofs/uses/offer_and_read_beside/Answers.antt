use Rattle.std.proofs.Common.{◌≡◌, ℕ, List, ap, ◌∙◌, subst}
use Rattle.word_rows.specs.Accounts.{LackOnly}
use Rattle.word_rows.specs.Changes.{first_view, left_view, new_view}
use Rattle.word_rows.specs.Words.{IsMeet, full_words}
use Rattle.word_rule.specs.Holdings.{Holding, together}
use Rattle.word_rule.specs.Histories.{EndsWith}
use Rattle.word_rule.specs.Uses.{OfferedInOneHistory}
use Rattle.word_rule.proofs.UseLemmas.{both_offered}
use Rattle.word_rule.proofs.uses.offer_and_read_beside.Goals as goal

pub returns-in-Ok-close : goal.returns-in-Ok-close
returns-in-Ok-close g c =
    let table = c.in-Ok.table in let w = table.width in let a = table.all in let one = c.join-one.result.0.0 in let other = c.join-one.result.1.0 in let words = c.in-Ok-close.closed.words in
    let row = c.args.row.now in let row' = c.args.other_row.now in
    let first = c.join-one.result.0.1.items in let second = c.join-one.result.1.1.items in
    let both : Holding = together one other in
    let ends : EndsWith w a both.pasts both.view words = subst (λ (p : Holding). EndsWith w a p.pasts p.view words) c.join.ensures.together c.in-Ok-close.ensures.ends in
    let met : IsMeet (full_words w) both.view.done words = subst (λ (p : Holding). IsMeet (full_words w) p.view.done words) c.join.ensures.together c.in-Ok-close.ensures.words in
    let lack : LackOnly both.view.readings both.view.done = subst (λ (p : Holding). LackOnly p.view.readings p.view.done) c.join.ensures.together c.in-Ok-close.ensures.readings in
    let left : c.split-other.new.pass.view ≡ left_view 1 (first_view 2) = ap (λ (h : Holding). h.view) c.split-other.ensures.old ∙ ap (λ (h : Holding). left_view 1 h.view) c.in-Ok.ensures.pass in
    let new : c.split-other.result.view ≡ new_view 1 (first_view 2) = ap (λ (h : Holding). h.view) c.split-other.ensures.new ∙ ap (λ (h : Holding). new_view 1 h.view) c.in-Ok.ensures.pass in
    subst (λ (n : ℕ). OfferedInOneHistory n 2 row row' first second words) c.in-Ok.ensures.table.0
    (subst (λ (n : ℕ). OfferedInOneHistory w n row row' first second words) c.in-Ok.ensures.table.1
    (both_offered c.not_both_miss.ensures c.block_lacks.ensures c.lacks_append.ensures table c.split-other.new.pass c.split-other.result one other row row' first second words
    left new c.entries.ensures.form c.entries-2.ensures.form c.join-one.ensures.first c.join-one.ensures.second ends met lack))
