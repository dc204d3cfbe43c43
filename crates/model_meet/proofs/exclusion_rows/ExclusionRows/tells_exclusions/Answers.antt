use Rattle.std.proofs.Common.{false}
use Rattle.std.proofs.lemmas.Nat.{mul-add-lt}
use Rattle.model_meet.proofs.TellingLemmas.{iff_then}
use Rattle.model_meet.proofs.exclusion_rows.ExclusionRows.tells_exclusions.Goals as goal

pub returns : goal.returns
returns c = λ traces s a b differ first second.
    let within = mul-add-lt a c.args.self.names b c.args.self.names first second in
    let entry = c.args.self.entries.tell a b false second within differ in
    iff_then ((λ kept. entry.bit.1 kept), (λ is. entry.bit.0 is)) (entry.told traces s)
