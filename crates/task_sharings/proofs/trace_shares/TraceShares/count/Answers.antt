use Rattle.std.proofs.Common.{sym, subst}
use Rattle.std.specs.List.Sorted.{IsStrictlyIncreasing}
use Rattle.shared_elements.specs.Elements.{AreElementsOf}
use Rattle.task_sharings.proofs.ListLemmas.{common_shared, list_read}
use Rattle.task_sharings.proofs.trace_shares.TraceShares.count.Goals as goal

pub count_common-requires-clause-one : goal.count_common-requires-clause-one
count_common-requires-clause-one c =
    let s = c.args.self.now in
    let are = list_read s.trace.now s.tasks c.args.from s.lists.items c.index.result.now c.requires.shares.listed c.requires.first c.index.ensures in
    subst IsStrictlyIncreasing (sym c.deref.ensures.value) are.rising

pub count_common-requires-clause-other : goal.count_common-requires-clause-other
count_common-requires-clause-other c =
    let s = c.args.self.now in
    let are = list_read s.trace.now s.tasks c.args.to s.lists.items c.index-2.result.now c.requires.shares.listed c.requires.second c.index-2.ensures in
    subst IsStrictlyIncreasing (sym c.deref-2.ensures.value) are.rising

pub returns : goal.returns
returns c =
    let s = c.args.self.now in
    let one = list_read s.trace.now s.tasks c.args.from s.lists.items c.index.result.now c.requires.shares.listed c.requires.first c.index.ensures in
    let other = list_read s.trace.now s.tasks c.args.to s.lists.items c.index-2.result.now c.requires.shares.listed c.requires.second c.index-2.ensures in
    common_shared s.trace.now c.args.from c.args.to c.count_common.result c.deref.result.now c.deref-2.result.now
    (subst (AreElementsOf s.trace.now c.args.from) (sym c.deref.ensures.value) one)
    (subst (AreElementsOf s.trace.now c.args.to) (sym c.deref-2.ensures.value) other)
    c.count_common.ensures
