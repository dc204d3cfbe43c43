use Rattle.std.proofs.Common.{false}
use Rattle.std.proofs.lemmas.Nat.{mul-add-lt}
use Rattle.model_meet.proofs.exclusion_rows.ExclusionRows.exclusive.Goals as goal

pub returns-clause-told : goal.returns-clause-told
returns-clause-told c =
    let within = mul-add-lt c.args.a c.args.self.names c.args.b c.args.self.names c.requires.first c.requires.second in
    (c.args.self.entries.tell c.args.a c.args.b false c.requires.second within c.requires.differ).told
