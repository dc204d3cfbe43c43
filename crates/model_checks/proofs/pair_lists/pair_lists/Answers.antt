use Rattle.trace_types.specs.Parts.{by_text}
use Rattle.std.proofs.Common.{arith}
use Rattle.trace_types.specs.NameOrder.{name_cmp}
use Rattle.trace_types.specs.Relations.{HappensBefore, ExcludesUnordered}
use Rattle.model_checks.proofs.DecisionLemmas.{first_named}
use Rattle.model_checks.proofs.PairLemmas.{rows_more, rows_done}
use Rattle.model_checks.proofs.pair_lists.pair_lists.Goals as goal

pub loop-first-preserved : goal.loop-first-preserved
loop-first-preserved c = record {
  before = rows_more (HappensBefore by_text c.args.traces.now) c.args.names.now c.requires.rising c.loop-first.first-index c.first-item.result (omega arith) c.first-item.is
      c.loop-first.lists.before.items c.add_row.new.lists.before.items c.loop-first.invariant.before c.in_ok-add_row.ensures.before;
  exclusive = rows_more (ExcludesUnordered by_text name_cmp c.args.traces.now) c.args.names.now c.requires.rising c.loop-first.first-index c.first-item.result (omega arith) c.first-item.is
      c.loop-first.lists.exclusive.items c.add_row.new.lists.exclusive.items c.loop-first.invariant.exclusive c.in_ok-add_row.ensures.exclusive;
}

pub returns-clause-before : goal.returns-clause-before
returns-clause-before c = rows_done (HappensBefore by_text c.args.traces.now) c.args.names.now c.requires.rising (λ a b h. (c.requires.exactly a).1 (first_named c.args.traces.now a b h.together))
    c.loop-first.first-index c.loop-first-test.false c.loop-first.lists.before.items c.loop-first.invariant.before

pub returns-clause-exclusive : goal.returns-clause-exclusive
returns-clause-exclusive c = rows_done (ExcludesUnordered by_text name_cmp c.args.traces.now) c.args.names.now c.requires.rising (λ a b h. (c.requires.exactly a).1 (first_named c.args.traces.now a b h.together))
    c.loop-first.first-index c.loop-first-test.false c.loop-first.lists.exclusive.items c.loop-first.invariant.exclusive
