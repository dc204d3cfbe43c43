use Rattle.std.proofs.Common.{◌≡◌, ◌∙◌, ℕ, ◌+◌, ◌-◌, ap, arith, sym}
use Rattle.std.proofs.lemmas.List.{length-set}
use Rattle.task_pieces.specs.inner.Numbering.{piece_at}
use Rattle.task_pieces.proofs.PlacingLemmas.{placed_more}
use Rattle.task_pieces.proofs.piece_numbers.place_pieces.Goals as goal

pub loop-at-preserved : goal.loop-at-preserved
loop-at-preserved c =
    let at = c.loop-at.invariant in
    record {
      length = length-set _ _ _ ∙ at.length;
      before = λ d some. let same : c.loop-at.at + 1 - 1 ≡ c.loop-at.at = omega arith in c.find_piece-piece.ensures d ∙ ap (λ (n : ℕ). piece_at c.args.order.now n d) (sym same);
      placed = placed_more c.args.order.now c.requires.sorted c.loop-at.pieces c.loop-at.at c.find_piece-piece.result _ c.loop-at-test.true (at.length ∙ c.requires.room) at.placed c.find_piece-piece.ensures;
    }
