use Rattle.std.proofs.Common.{nat_lt, ap, arith, sym}
use Rattle.std.proofs.lemmas.Bool.{lt-ltb, le-ltb}
use Rattle.std.proofs.lemmas.List.{get_or_read}
use Rattle.std.proofs.lemmas.List.Sums.{prefix_len_is}
use Rattle.day_partitions.specs.declared.day.Day.{Day}
use Rattle.day_partitions.proofs.ShownLemmas.{prefix_len_all}
use Rattle.day_partitions.proofs.finding.find_place.Goals as goal

pub returns-else-days-place-clause-place : goal.returns-else-days-place-clause-place
returns-else-days-place-clause-place c =
    let x = c.index-days-place.result in
    let at = get_or_read c.args.days.now c.days.place x c.days-test.true c.index-days-place.is in
    sym (prefix_len_is (λ (d : Day). nat_lt d.day c.args.day) c.args.days.now c.days.place x c.days.invariant.within (λ k l. lt-ltb _ _ (c.days.invariant.below k x l)) (λ l. le-ltb _ _ (omega (arith, c.if-days-place.false, ap (λ (d : Day). d.day) (at x)))))

pub returns-after-days-clause-place : goal.returns-after-days-clause-place
returns-after-days-clause-place c =
    sym (prefix_len_all (λ (d : Day). nat_lt d.day c.args.day) c.args.days.now c.days.place (omega (arith, c.days.invariant.within, c.days-test.false)) (λ k e l. lt-ltb _ _ (c.days.invariant.below k e l)))
