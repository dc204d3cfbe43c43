use Rattle.std.proofs.Common.{arith}
use Rattle.counterexamples.proofs.FirstLemmas.{all_noted}
use Rattle.counterexamples.proofs.finding_all.find_all.Goals as goal

pub returns : goal.returns
returns c =
    let count = c.days-place-end.ensures.count in
    let few = c.days-place-end.ensures.kept.names in
    let all = c.days-test.false in
    all_noted c.places_fit.ensures c.args.book.now few c.days.words.items c.days.place (omega (arith, count, all, c.days.auto.place-end)) c.days.invariant
