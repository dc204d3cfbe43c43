use Rattle.std.proofs.Common.{◌≡◌, ◌∷◌, ◌++◌}
use Rattle.event_lines.proofs.PieceLemmas.{pieces_read}
use Rattle.event_lines.proofs.pieces.+fn-read_pieces-join+arg2+fn-read_pieces-join+arg3+read_pieces.Goals as goal

pub returns : goal.returns
returns g t c =
    let cut : c.args.bytes.now ≡ c.in-Some.front.now ++ 10 ∷ c.in-Some.back.now = c.in-Some.ensures in
    pieces_read _ _ _ _ _ cut (c.join_readings.ensures _ _ _ c.join-front.ensures.first c.join-front.ensures.second)
