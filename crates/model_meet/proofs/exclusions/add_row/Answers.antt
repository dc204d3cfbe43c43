use Rattle.model_meet.specs.ExclusionTables.{HasEntries}
use Rattle.std.proofs.Common.{◌+◌, ◌*◌, arith, subst, sym}
use Rattle.model_meet.proofs.TableLemmas.{entry_push}
use Rattle.model_meet.proofs.exclusions.add_row.Goals as goal

pub loop-other-preserved : goal.loop-other-preserved
loop-other-preserved c =
    subst (HasEntries c.args.model.now (c.args.name * c.args.model.now.names + (c.loop-other.other + 1))) (sym c.in_ok-push.ensures.items)
    (entry_push c.args.model.now c.args.name c.loop-other.other c.loop-other.table.items c.entry_of.result (omega arith) c.entry_of.ensures c.loop-other.invariant)
