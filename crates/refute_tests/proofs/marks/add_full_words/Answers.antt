use Rattle.std.proofs.Common.{◌≡◌, ℕ, ◌+◌, ◌-◌, ◌*◌, ◌/◌, ◌%◌, ◌^◌, ◌<◌, ◌&&◌, ◌||◌, nat_lt, length, get_or, ap, ◌∙◌, arith, rules}
use Rattle.hypothesis_index.specs.Places.{pairs_below}
use Rattle.refute_tests.proofs.MarkLemmas.{all_below}
use Rattle.refute_tests.proofs.RowLemmas.{added, high, whole}
use Rattle.refute_tests.specs.inner.Marks.{has_mark, in_row}
use Rattle.refute_tests.proofs.marks.add_full_words.Goals as goal

pub loop-word-preserved : goal.loop-word-preserved
loop-word-preserved c =
    let v = c.loop-word.invariant in
    let marks = c.args.marks.now in
    let g : ℕ = c.args.greater in
    let row : ℕ = c.args.row in
    let word : ℕ = c.loop-word.word in
    let n : ℕ = word - row / 16 in
    let at : word ≡ row / 16 + n = omega arith in
    let full = all_below marks n g (omega arith) in
    let small : get_or marks n 0 < 2 ^ 64 = search rules in
    let long : word < length c.loop-word.table = omega arith in
    record {
      added = added marks g row word n c.requires.row at c.loop-word.table c.args.table.now _ long (whole marks g row word n c.requires.row at c.loop-word.carry (get_or marks n 0) full v.carried) v.added;
      carried = high marks g row word n c.requires.row at (get_or marks n 0) small full;
    }

pub returns-clause-added : goal.returns-clause-added
returns-clause-added c = λ p k h.
    let end : c.loop-word.word ≡ c.args.row / 16 + c.args.greater / 16 = omega arith in
    c.loop-word.invariant.added p k h
    ∙ ap (λ (w : ℕ). has_mark c.args.table.now p k || (nat_lt p (16 * w) && (in_row c.args.greater p && has_mark c.args.marks.now (p - pairs_below c.args.greater) k))) end

pub returns-clause-carried : goal.returns-clause-carried
returns-clause-carried c = λ k m h l.
    let end : c.loop-word.word ≡ c.args.row / 16 + c.args.greater / 16 = omega arith in
    c.loop-word.invariant.carried k m h l
    ∙ ap (λ (w : ℕ). nat_lt (4 * k) (4 * (c.args.row % 16)) && (in_row c.args.greater (16 * w + k) && has_mark c.args.marks.now (16 * w + k - pairs_below c.args.greater) m)) end
