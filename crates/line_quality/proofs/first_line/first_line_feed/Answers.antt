use Rattle.line_quality.proofs.LineStartLemmas.{first_alone}
use Rattle.line_quality.proofs.first_line.first_line_feed.Goals as goal

pub returns-clause-first : goal.returns-clause-first
returns-clause-first c = first_alone c.args.bytes.now c.memchr.result c.memchr.ensures
