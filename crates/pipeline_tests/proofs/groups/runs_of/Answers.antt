use Rattle.std.proofs.Common.{sym, ap, refl, rules}
use Rattle.pipeline_tests.proofs.GroupLemmas.{runs_pushed}
use Rattle.pipeline_tests.specs.declared.stays.Stay.{Stay}
use Rattle.pipeline_tests.proofs.groups.runs_of.Goals as goal

pub loop-from-preserved : goal.loop-from-preserved
loop-from-preserved c = record {
  within = c.run_end-to.ensures.within;
  runs = runs_pushed c.args.stays.now c.requires c.loop-from.from c.run_end-to.result c.index-stays-from.result c.loop-from-test.true c.index-stays-from.is c.run_end-to.ensures
      c.loop-from.groups.items c.reserve.new.self.items c.push_reserved.new.self.items _ c.loop-from.invariant.runs c.in_ok-reserve.ensures.items c.push_reserved.ensures.items
      (ap (λ (s : Stay). s.task) (sym c.index-stays-from.is)) refl;
}
