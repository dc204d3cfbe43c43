use Rattle.model_checks.proofs.DecisionLemmas.{told_before, told_exclusive}
use Rattle.model_checks.proofs.NameLemmas.{told_apart, told_less}
use Rattle.model_checks.proofs.standing.standing_of.Goals as goal

pub returns-clause-before : goal.returns-clause-before
returns-clause-before c = λ traces told.
    let r = c.args.refuted in
    told_before traces c.args.a.now c.args.b.now r.apart r.before told.apart told.before c.ne.result c.happens_before.result c.happens_before.ensures (told_apart c.args.a.now c.args.b.now c.ne.result c.ne.ensures)

pub returns-clause-exclusive : goal.returns-clause-exclusive
returns-clause-exclusive c = λ traces told.
    let r = c.args.refuted in
    told_exclusive traces c.args.a.now c.args.b.now r.apart r.before told.apart told.before r.exclusive r.after told.exclusive told.after c.lt.result c.excludes_unordered.result c.excludes_unordered.ensures (told_less c.args.a.now c.args.b.now c.lt.result c.lt.ensures)
