use Rattle.event_lines.proofs.ClearLineLemmas.{last_alone}
use Rattle.line_split.proofs.carry.last_line_feed.Goals as goal

pub returns-clause-last : goal.returns-clause-last
returns-clause-last c = last_alone c.args.bytes.now c.memrchr.result c.memrchr.ensures
