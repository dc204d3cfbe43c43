use Rattle.std.proofs.Common.{◌≡◌, ◌∷◌, ◌++◌, [], ◌∙◌, ℕ, List, Some, ap, cond, length, subst, sym}
use Rattle.std.specs.BTreeMap.{get, is_at}
use Rattle.event_table.specs.inner.TextNumbers.{key_cmp, key_of}
use Rattle.event_table.proofs.TextNumberLemmas.{numbered_more}
use Rattle.event_table.proofs.text_table.append_text.Goals as goal

pub returns-clause-numbered : goal.returns-clause-numbered
returns-clause-numbered c =
    let texts = c.args.texts.now.items in
    let more = c.push_reserved.new.self.items in
    let text = c.args.key.1 in
    let push : more ≡ texts ++ text ∷ [] = c.push_reserved.ensures.items ∙ (λ k. c.reserve.ensures.items k ++ c.in_ok-text.ensures k ∷ []) in
    let long : c.len-number.result ≡ length texts = c.len-number.ensures ∙ c.args.texts.now.ok.0 in
    let put : (q : ℕ × List ℕ) → get key_cmp c.insert.new.self q ≡ cond (is_at (key_cmp (key_of text)) q) (Some (length texts)) (get key_cmp c.args.numbers.now q) = λ q.
    c.in_ok-insert.ensures.updates.0 q ∙ (λ k. cond (is_at (key_cmp (c.requires.key k)) q) (Some (long k)) (get key_cmp c.args.numbers.now q)) in
    numbered_more texts more c.args.numbers.now c.insert.new.self text c.requires.numbered c.requires.new push put
