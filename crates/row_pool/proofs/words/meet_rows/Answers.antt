use Rattle.row_pool.proofs.MeetLemmas.{met_none, met_more, met_all}
use Rattle.row_pool.proofs.words.meet_rows.Goals as goal

pub loop-k-init : goal.loop-k-init
loop-k-init c = met_none _ _ _ _ _

pub loop-k-preserved : goal.loop-k-preserved
loop-k-preserved c = met_more _ _ _ _ _ _ _ c.requires.apart.0 c.requires.apart.1 c.loop-k-test.true c.requires.rows.0 c.loop-k.invariant

pub returns : goal.returns
returns c = met_all _ _ _ _ _ _ _ c.loop-k-test.false c.requires.rows.0 c.requires.rows.1 c.requires.rows.2 c.loop-k.invariant
