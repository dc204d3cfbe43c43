use Rattle.hypothesis_index.specs.declared.relation.Relation.TheVariants.{Before, Exclusive, Apart}
use Rattle.judged_books.specs.inner.MarkedRows.{tells_after, tells_before, tells_both, tells_exclusive}
use Rattle.judged_books.proofs.RowLemmas.{names_add, told}
use Rattle.judged_books.proofs.given_rows.clear_names.Goals as goal

pub returns-clause-cleared : goal.returns-clause-cleared
returns-clause-cleared c = names_add c.args.low c.args.high c.args.mark c.requires.rises c.requires.small c.args.maker.now c.clear_if.new.maker c.clear_if-2.new.maker c.clear_if-3.new.maker c.clear_if-4.new.maker
    (told c.args.maker.now c.clear_if.new.maker (Before c.args.low c.args.high) c.tells_before.result (tells_before c.args.mark) c.tells_before.ensures c.in_ok-clear_if.ensures.cleared)
    (told c.clear_if.new.maker c.clear_if-2.new.maker (Before c.args.high c.args.low) c.tells_after.result (tells_after c.args.mark) c.tells_after.ensures c.in_ok-clear_if-2.ensures.cleared)
    (told c.clear_if-2.new.maker c.clear_if-3.new.maker (Exclusive c.args.low c.args.high) c.tells_exclusive.result (tells_exclusive c.args.mark) c.tells_exclusive.ensures c.in_ok-clear_if-3.ensures.cleared)
    (told c.clear_if-3.new.maker c.clear_if-4.new.maker (Apart c.args.low c.args.high) c.tells_both.result (tells_both c.args.mark) c.tells_both.ensures c.in_ok-clear_if-4.ensures.cleared)
