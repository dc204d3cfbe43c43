use Rattle.std.proofs.Common.{sym, subst}
use Rattle.shared_elements.specs.Elements.{AreElementsOf}
use Rattle.task_sharings.proofs.ListLemmas.{list_read}
use Rattle.task_sharings.proofs.trace_shares.TraceShares.refutes.Goals as goal

pub returns : goal.returns
returns c = c.refutes_pipe.ensures c.args.self.now.trace.now c.requires.shares.told

pub refutes_itself-requires : goal.refutes_itself-requires
refutes_itself-requires c =
    let s = c.args.self.now in
    let are = list_read s.trace.now s.tasks c.args.from s.lists.items c.index.result.now c.requires.shares.listed c.requires.first c.index.ensures in
    subst (AreElementsOf s.trace.now c.args.from) (sym c.deref.ensures.value) are
