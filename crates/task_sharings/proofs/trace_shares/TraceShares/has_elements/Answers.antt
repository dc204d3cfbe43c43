use Rattle.task_sharings.proofs.ListLemmas.{list_read, nothing_listed}
use Rattle.task_sharings.proofs.trace_shares.TraceShares.has_elements.Goals as goal

pub returns : goal.returns
returns c = λ none e h.
    let s = c.args.self.now in
    let v = c.index.result.now in
    let are = list_read s.trace.now s.tasks c.args.task s.lists.items v c.requires.shares.listed c.requires.task c.index.ensures in
    nothing_listed s.trace.now c.args.task v.items v.len c.is_empty.result are v.ok.0 c.is_empty.ensures none e h
