use Rattle.trace_types.specs.NameOrder.{name_cmp}
use Rattle.model_meet.specs.RelationBits.{HasExclusion, HasOrder}
use Rattle.trace_types.proofs.ListingLemmas.{name_total}
use Rattle.view_rows.specs.inner.Listings.{IsExclusion, IsOrder}
use Rattle.kept_names.proofs.ListingLemmas.{holds_first}
use Rattle.view_rows.proofs.ModelRowLemmas.{rows_end, rows_step}
use Rattle.view_rows.proofs.name_pairs.name_pairs.Goals as goal

pub loop-at-preserved : goal.loop-at-preserved
loop-at-preserved c = record {
  before = rows_step name_cmp name_total c.args.names.now c.requires.rising (IsOrder c.args.names.now c.args.model.now.words) c.loop-at.at c.loop-at-test.true c.loop-at.pairs.before.items c.add_row.new.pairs.before.items
      (c.loop-at.invariant.before) (λ first e. c.in_ok-add_row.ensures.before first e);
  exclusive = rows_step name_cmp name_total c.args.names.now c.requires.rising (IsExclusion c.args.names.now c.args.model.now.words) c.loop-at.at c.loop-at-test.true c.loop-at.pairs.exclusive.items c.add_row.new.pairs.exclusive.items
      (c.loop-at.invariant.exclusive) (λ first e. c.in_ok-add_row.ensures.exclusive first e);
}

pub returns-clause-before : goal.returns-clause-before
returns-clause-before c = rows_end name_cmp name_total c.args.names.now c.requires.rising (IsOrder c.args.names.now c.args.model.now.words)
    (λ x y h. holds_first name_cmp name_total c.args.names.now c.requires.rising (HasOrder c.args.model.now.words) x y h)
    c.loop-at.at c.loop-at-test.false c.loop-at.pairs.before.items (c.loop-at.invariant.before)

pub returns-clause-exclusive : goal.returns-clause-exclusive
returns-clause-exclusive c = rows_end name_cmp name_total c.args.names.now c.requires.rising (IsExclusion c.args.names.now c.args.model.now.words)
    (λ x y h. holds_first name_cmp name_total c.args.names.now c.requires.rising (HasExclusion c.args.model.now.words) x y h.1)
    c.loop-at.at c.loop-at-test.false c.loop-at.pairs.exclusive.items (c.loop-at.invariant.exclusive)
