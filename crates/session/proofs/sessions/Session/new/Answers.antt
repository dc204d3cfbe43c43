use Rattle.session.proofs.JudgeLemmas.{shows_first}
use Rattle.session.proofs.sessions.Session.new.Goals as goal

pub returns-clause-first : goal.returns-clause-first
returns-clause-first c = λ digest table.
    let given = c.in_ok-given.ensures in
    shows_first c.args.given c.requires.table digest table c.args.workers c.in_ok-given.catalogue c.in_ok-days.days c.in_ok-of.field-0 c.in_ok-given.given (given.known digest table) c.in_ok-days.ensures c.in_ok-of.ensures.whole (given.given digest table)
