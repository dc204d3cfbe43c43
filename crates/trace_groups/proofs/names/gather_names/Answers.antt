use Rattle.std.proofs.Common.{arith}
use Rattle.trace_groups.proofs.NameLemmas.{names_all, names_more}
use Rattle.trace_groups.proofs.names.gather_names.Goals as goal

pub events-preserved : goal.events-preserved
events-preserved c =
    names_more c.args.raw.now c.events.at c.events.names.keys c.insert.new.self.keys c.name_at.result (omega (arith, c.events-test.true, c.len-at-end.ensures.events))
    c.state_texts_differ.ensures.tasks c.state_texts_differ.ensures.names c.events.invariant c.name_at.ensures c.in_ok-insert.ensures.keys c.in_ok-insert.ensures.updates.0

pub returns : goal.returns
returns c = names_all c.args.raw.now c.events.at c.len-at-end.result c.events.names.keys c.events-test.false c.len-at-end.ensures.events c.len-at-end.ensures.some c.events.invariant
