use Rattle.step_core.proofs.FollowLemmas.{load_follows}
use Rattle.step_core.proofs.tables.Tables.load.Goals as goal

pub returns-clause-follows : goal.returns-clause-follows
returns-clause-follows c = load_follows c.args.self.now c.args.seat c.args.word
