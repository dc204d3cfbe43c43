use Rattle.std.proofs.Common.{◌-◌, ◌∙◌, arith, get_or, length, refl}
use Rattle.std.proofs.lemmas.List.{length-set}
use Rattle.context_names.proofs.ValueLemmas.{written_all, written_more, written_none}
use Rattle.context_names.proofs.scattering.write_values.Goals as goal

pub loop-left-init : goal.loop-left-init
loop-left-init c = record {
  size = refl;
  written = written_none c.args.numbers.now c.args.values.now c.args.all.now (length c.args.all.now) c.requires.same c.requires.none;
}

pub loop-left-preserved : goal.loop-left-preserved
loop-left-preserved c =
    let ns = c.args.numbers.now in
    let vs = c.args.values.now in
    let at = length ns - 1 - c.loop-left.left in
    record {
      size = length-set c.loop-left.all (get_or ns at 0) (get_or vs at 0) ∙ c.loop-left.invariant.size;
      written = written_more ns vs c.loop-left.all _ (length c.args.all.now) c.loop-left.left c.requires.same c.loop-left-test.true (c.requires.within at 0 (omega arith)) c.loop-left.invariant.written refl;
    }

pub returns : goal.returns
returns c = written_all c.args.numbers.now c.args.values.now c.loop-left.all (length c.args.all.now) c.loop-left.left c.loop-left-test.false c.loop-left.invariant.written
