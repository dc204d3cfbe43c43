use Rattle.std.proofs.Common.{◌≡◌, ℕ, ◌+◌, ◌-◌, ◌*◌, ◌/◌, ◌<◌, ◌&&◌, ◌||◌, nat_lt, Bool, length, refl, ap, ◌∙◌, arith, rules, ◌^◌}
use Rattle.hypothesis_index.specs.Places.{pairs_below}
use Rattle.refute_tests.specs.inner.Marks.{has_mark, in_row}
use Rattle.refute_tests.proofs.RowLemmas.{added, high, row_done, whole}
use Rattle.refute_tests.proofs.marks.add_row.Goals as goal

pub loop-word-preserved : goal.loop-word-preserved
loop-word-preserved c =
    let v = c.loop-word.invariant in
    let marks = c.args.marks.now in
    let g : ℕ = c.args.greater in
    let row : ℕ = c.row_slot-row.result - 2016 in
    let word : ℕ = c.loop-word.word in
    let from : row ≡ pairs_below g = let f = c.row_slot-row.ensures.first in omega arith in
    let at : word ≡ row / 16 + (word - row / 16) = omega arith in
    let small : c.word_below-marked.result < 2 ^ 64 = search rules in
    let long : word < length c.loop-word.table = omega arith in
    record {
      added = added marks g row word (word - row / 16) from at c.loop-word.table c.args.table.now _ long
          (whole marks g row word (word - row / 16) from at c.loop-word.carry c.word_below-marked.result c.word_below-marked.ensures v.carried) v.added;
      carried = high marks g row word (word - row / 16) from at c.word_below-marked.result small c.word_below-marked.ensures;
    }

pub returns : goal.returns
returns c = λ p k h.
    let f = c.row_slot-row.ensures.first in
    let end : c.loop-word.word ≡ (pairs_below c.args.greater + c.args.greater - 1) / 16 + 1 = omega arith in
    c.loop-word.invariant.added p k h
    ∙ ap (λ (b : Bool). has_mark c.args.table.now p k || b)
    (ap (λ (w : ℕ). nat_lt p (16 * w) && (in_row c.args.greater p && has_mark c.args.marks.now (p - pairs_below c.args.greater) k)) end
    ∙ row_done c.args.greater p ((pairs_below c.args.greater + c.args.greater - 1) / 16) (has_mark c.args.marks.now (p - pairs_below c.args.greater) k) (omega arith) refl)
