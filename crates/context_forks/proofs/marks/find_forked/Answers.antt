use Rattle.std.proofs.Common.{◌≡◌, ◌∙◌, ◌||◌, ℕ, ap, false, length, replicate, rules, sym}
use Rattle.std.proofs.lemmas.List.{length-replicate}
use Rattle.context_forks.specs.Forks.{has_reaching, is_linked}
use Rattle.context_forks.proofs.MarkLemmas.{marked_all, written_back}
use Rattle.context_forks.proofs.marks.find_forked.Goals as goal

pub returns : goal.returns
returns c =
    let count = c.args.count in
    let new = c.mark_all.new.forked in
    let p = λ (x : ℕ). has_reaching c.args.grace c.args.calls.now c.args.numbers.now x || is_linked c.args.links.now x in
    let items : c.in_ok-forked.forked.items ≡ replicate count false = search rules in
    let first : c.deref_mut.result.now ≡ replicate count false = c.deref_mut.ensures.value ∙ items in
    let size : length new ≡ length c.deref_mut.result.now = c.mark_all.auto.forked in
    let all : length new ≡ c.in_ok-forked.forked.len = size ∙ ap length first ∙ length-replicate count false ∙ sym c.in_ok-forked.ensures.len in
    written_back new c.in_ok-forked.forked.items c.in_ok-forked.forked.len all ∙ marked_all p c.deref_mut.result.now new count first size c.mark_all.ensures
