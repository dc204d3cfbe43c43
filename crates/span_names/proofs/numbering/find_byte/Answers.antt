use Rattle.std.proofs.Common.{arith, get_or, length, sym}
use Rattle.std.specs.Prelude.{◌==◌}
use Rattle.std.proofs.lemmas.Bool.{eq-eqb}
use Rattle.std.proofs.lemmas.List.Sums.{position_or_len_is}
use Rattle.span_names.proofs.numbering.find_byte.Goals as goal

pub returns-then-text-at : goal.returns-then-text-at
returns-then-text-at c =
    sym (position_or_len_is (λ b. b == c.args.byte) c.args.text.now c.loop-at.at 0 (omega arith) c.loop-at.invariant (λ _. eq-eqb (get_or c.args.text.now c.loop-at.at 0) c.args.byte c.if-text-at.true))

pub returns : goal.returns
returns c =
    let text = c.args.text.now in
    sym (position_or_len_is (λ b. b == c.args.byte) text (length text) 0 (omega arith) (λ k lt. c.loop-at.invariant k (omega arith)) (λ lt. absurd (omega (arith, lt))))
