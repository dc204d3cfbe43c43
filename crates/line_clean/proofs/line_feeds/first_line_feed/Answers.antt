use Rattle.line_clean.proofs.LineLemmas.{first_alone}
use Rattle.line_clean.proofs.line_feeds.first_line_feed.Goals as goal

pub returns-clause-first : goal.returns-clause-first
returns-clause-first c = first_alone c.args.bytes.now c.memchr.result c.memchr.ensures
