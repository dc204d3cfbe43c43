use Rattle.std.proofs.Common.{arith}
use Rattle.graph_picture.specs.Graphs.{pipe_text}
use Rattle.graph_picture.proofs.TextLemmas.{flat_more}
use Rattle.graph_picture.proofs.arrows.push_pipes.Goals as goal

pub pairs-preserved : goal.pairs-preserved
pairs-preserved c = flat_more (pipe_text c.args.places.now) c.args.pairs.now c.pairs.pair-index (0, 0) c.args.bytes.now.items c.pairs.bytes.items c.push_between.new.bytes.items (omega (arith, c.pairs-test.true)) c.pairs.invariant c.in_ok-push_between.ensures
