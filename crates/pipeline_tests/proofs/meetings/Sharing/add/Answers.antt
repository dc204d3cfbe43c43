use Rattle.std.proofs.Common.{◌||◌, Bool, refl, ap}
use Rattle.pipeline_tests.proofs.MeetingLemmas.{sharing_more}
use Rattle.pipeline_tests.proofs.meetings.Sharing.add.Goals as goal

pub returns : goal.returns
returns c = λ met s later. let old = c.args.self.now in
    sharing_more c.args.grace met old s (record { low = c.args.low.now; high = c.args.high.now }) later _ refl refl
    (ap (λ (b : Bool). old.upward || b) c.starts_early.ensures) (ap (λ (b : Bool). old.downward || b) c.starts_early-2.ensures) c.max-self.ensures
