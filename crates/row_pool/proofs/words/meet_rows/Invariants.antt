use Rattle.row_pool.proofs.MeetLemmas.{MetSoFar}
use Rattle.row_pool.proofs.words.meet_rows.Given as goal

abbrev pub invariant-loop-k : goal.invariant-loop-k
invariant-loop-k l = MetSoFar l.width l.to l.a l.b l.k l.initial.words l.words
