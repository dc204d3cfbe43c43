use Rattle.std.proofs.Common.{◌∙◌, ◌-◌, arith}
use Rattle.task_pieces.proofs.PlacingLemmas.{few_at, first_at, next_at, no_key}
use Rattle.task_pieces.proofs.piece_numbers.find_piece.Goals as goal

pub returns-then-at-eq0 : goal.returns-then-at-eq0
returns-then-at-eq0 c d = rw c.if-at-eq0.true (first_at c.args.order.now c.requires.sorted d (omega (arith, c.requires.within, c.if-at-eq0.true)))

pub piece_after-requires : goal.piece_after-requires
piece_after-requires c =
    let is = c.requires.before no_key (omega (arith, c.if-at-eq0.false)) in
    omega (arith, few_at c.args.order.now c.requires.sorted no_key (c.args.at - 1), c.requires.few, is)

pub returns : goal.returns
returns c d = c.piece_after.ensures ∙ next_at c.args.order.now c.requires.sorted d _ c.args.at c.args.piece (omega (arith, c.if-at-eq0.false)) c.requires.within (c.requires.before d (omega (arith, c.if-at-eq0.false)))
