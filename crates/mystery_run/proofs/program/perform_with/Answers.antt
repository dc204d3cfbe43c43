use Rattle.mystery_run.proofs.InputLemmas.{kept_within, replay_of_bytes}
use Rattle.mystery_run.proofs.program.perform_with.Goals as goal

pub replay_input-requires : goal.replay_input-requires
replay_input-requires g c = rw c.bytes.ensures (kept_within c.args.input c.requires.within)

pub returns-in-Replay-clause-ends : goal.returns-in-Replay-clause-ends
returns-in-Replay-clause-ends g c = rw c.in-Replay.is (replay_of_bytes _ c.args.input _ _ _ _ c.bytes.ensures (c.replay_input.ensures.ends c.args.line.workers))
