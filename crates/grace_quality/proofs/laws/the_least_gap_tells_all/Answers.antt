use Rattle.std.proofs.Common.{◌*◌, neg_ℤ, pos}
use Rattle.evidence_rules.specs.Meetings.{distance}
use Rattle.evidence_rules.specs.declared.meeting.Meeting.{Meeting}
use Rattle.grace_quality.proofs.GapLemmas.{least_tells}
use Rattle.grace_quality.proofs.laws.the_least_gap_tells_all.Goals as goal

pub returns-clause-order : goal.returns-clause-order
returns-clause-order c meetings f micros are some = least_tells (λ (m : Meeting). m.gap) (neg_ℤ (pos (1000 * micros))) meetings f.least f.traces are.least are.traces some

pub returns-clause-exclusion : goal.returns-clause-exclusion
returns-clause-exclusion c meetings f micros are some = least_tells distance (neg_ℤ (pos (1000 * micros))) meetings f.nearest f.traces are.nearest are.traces some
