use Rattle.std.proofs.Common.{◌≡◌, ◌∙◌, ◌+◌, ◌-◌, ◌*◌, ◌++◌, ◌≤◌, ap, arith, length-append, length-take, length-drop, length, take, drop, List, ℕ}
use Rattle.std.proofs.lemmas.List.{length-replicate}
use Rattle.word_rows.specs.Words.{full_words as full}
use Rattle.row_pool.specs.inner.Layout.{row_in}
use Rattle.row_pool.proofs.RowLemmas.{length-row_in}
use Rattle.row_pool.proofs.WidthLemmas.{writes_mid}
use Rattle.row_pool.proofs.words.widen_row.Goals as goal

filled : (ws : List ℕ) (old new from e n : ℕ) → e ≡ old → n ≡ new → length (take old (drop from ws)) ≡ old → take e (drop from ws) ++ full (n - length (take e (drop from ws))) ≡ take old (drop from ws) ++ full (new - old)
filled ws old new from e n is all long =
    let left : n - length (take old (drop from ws)) ≡ new - old = omega arith in
    ap (λ k. take k (drop from ws) ++ full (n - length (take k (drop from ws)))) is ∙ ap (λ j. take old (drop from ws) ++ full j) left

part : (ws : List ℕ) (from e w : ℕ) → e ≡ w → from + w ≤ length ws → length (take e (drop from ws)) ≡ w
part ws from e w is within = omega (arith, length-take e (drop from ws), length-drop from ws)

pub returns : goal.returns
returns c =
    let ws = c.args.from.now in let old = c.args.old in let new = c.args.new in
    let long = length-row_in old c.args.row ws c.requires.rows.1 in
    let row = row_in ws old c.args.row in
    let size : length (row ++ full (new - old)) ≡ new = omega (arith, length-append row (full (new - old)), length-replicate {A = ℕ} (new - old) 18446744073709551615, long, c.requires.widths.1) in
    let a = c.args.row * new in let b = c.args.row * old in
    let to_end : a + new - a ≡ new = omega arith in
    let from_end : b + old - b ≡ old = omega arith in
    writes_mid new c.args.row _ c.args.to.now _ _ to_end (c.copy_widened.ensures ∙ filled ws old new b (b + old - b) _ from_end (part c.args.to.now a (a + new - a) new to_end c.requires.rows.0) long) size c.requires.rows.0
