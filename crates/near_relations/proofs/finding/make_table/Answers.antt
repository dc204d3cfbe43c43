use Rattle.std.proofs.Common.{◌∙◌, ap, map}
use Rattle.near_relations.specs.inner.Naming.{borrowed}
use Rattle.near_relations.proofs.NamedLemmas.{below_lent}
use Rattle.near_relations.proofs.finding.make_table.Goals as goal

pub meet_all-requires-clause-below : goal.meet_all-requires-clause-below
meet_all-requires-clause-below g c = λ κs live. below_lent c.args.names c.deref.result.now c.args.traces.now (ap (map borrowed) c.deref.ensures.value ∙ c.in_ok-lent.ensures) c.requires.below
