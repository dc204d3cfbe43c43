use Rattle.digest_reading.proofs.LineLemmas.{ended, unended}
use Rattle.digest_reading.proofs.lines.first_line.Goals as goal

pub returns-in-Some-clause-cut : goal.returns-in-Some-clause-cut
returns-in-Some-clause-cut c = ended c.args.bytes.now c.in-Some.end c.in-Some.ensures

pub returns-in-None-clause-cut : goal.returns-in-None-clause-cut
returns-in-None-clause-cut c = unended c.args.bytes.now c.in-None.ensures
