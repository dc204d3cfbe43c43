use Rattle.tail_picture.specs.Tails.{whole_text}
use Rattle.tail_picture.proofs.difference.push_whole.Goals as goal

pub returns : goal.returns
unfolding whole_text
returns c =
    rw (c.sign_of-latency_sign.ensures, c.apart_of-latency_apart.ensures, c.sign_of-path_sign.ensures, c.apart_of-path_apart.ensures, c.sign_of-between_sign.ensures, c.apart_of-between_apart.ensures)
    at c.push_pieces.ensures
