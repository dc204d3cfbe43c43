use Rattle.std.proofs.Common.{arith}
use Rattle.task_pieces.proofs.NameLemmas.{added_few, grown_more, in_row}
use Rattle.task_pieces.proofs.piece_names.push_names.Goals as goal

pub overflow_add-number : goal.overflow_add-number
overflow_add-number c =
    let at = c.numbers.invariant in
    let row = in_row c.args.tasks.now.keys c.args.stem.now c.args.names.now.items c.numbers.names.items c.numbers.number at.low c.requires.one at.grown c.args.count (omega (arith, c.numbers.auto.number-fits)) (omega (arith, c.numbers-test.true, c.len.ensures, c.numbers.names.ok.0)) in
    omega (arith, row, c.requires.few)

pub numbers-smaller : goal.numbers-smaller
numbers-smaller c =
    let at = c.numbers.invariant in
    let row = in_row c.args.tasks.now.keys c.args.stem.now c.args.names.now.items c.numbers.names.items c.numbers.number at.low c.requires.one at.grown c.args.count (omega (arith, c.numbers.auto.number-fits)) (omega (arith, c.numbers-test.true, c.len.ensures, c.numbers.names.ok.0)) in
    omega (arith, row)

pub numbers-preserved : goal.numbers-preserved
numbers-preserved c =
    let at = c.numbers.invariant in
    let grown = grown_more c.args.tasks.now.keys c.args.stem.now c.args.names.now.items c.numbers.names.items c.numbers.number at.low c.requires.one at.grown c.push_if_free.new.names.items c.in_ok-name.name c.in_ok-name.ensures c.in_ok-push_if_free.ensures in
    record {
      low = omega (arith, at.low);
      grown = grown;
      short = omega (arith, added_few c.args.tasks.now.keys c.numbers.names.items c.push_if_free.new.names.items c.in_ok-name.name c.in_ok-push_if_free.ensures, c.numbers-test.true, c.len.ensures, c.numbers.names.ok.0);
    }
