use Rattle.std.proofs.Common.{codes}
use Rattle.picture_parts.specs.Names.{isolated_text}
use Rattle.matrix_picture.specs.Frames.{frame_start, frame_text}
use Rattle.matrix_picture.proofs.FrameLemmas.{five_sent}
use Rattle.matrix_picture.proofs.frames.push_frame.Goals as goal

pub returns : goal.returns
unfolding frame_text
returns c =
    five_sent c.push_fixed-2.result _ _ _ _ _ _ (frame_start c.args.cell c.args.row c.args.column) (isolated_text c.args.pipe.now.first) (codes ", ") (isolated_text c.args.pipe.now.second) (codes "</title></rect>") c.in_ok-push_frame_start.ensures
    c.in_ok-push_isolated.ensures c.in_ok-push_fixed.ensures c.in_ok-push_isolated-2.ensures c.push_fixed-2.ensures
