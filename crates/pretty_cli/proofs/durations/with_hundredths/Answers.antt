use Rattle.std.proofs.lemmas.List.{append_assoc}
use Rattle.pretty_cli.proofs.durations.with_hundredths.Goals as goal

pub returns : goal.returns
returns c = simp append_assoc c.format.ensures.ok
