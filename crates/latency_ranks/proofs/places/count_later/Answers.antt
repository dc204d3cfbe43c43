use Rattle.std.proofs.Common.{ℕ, ◌+◌, ◌-◌, ◌/◌, get_or, sym, ◌∙◌, arith}
use Rattle.std.proofs.lemmas.List.{get_or_default}
use Rattle.latency_ranks.proofs.PlaceLemmas.{IsBetween-left, IsBetween-right, Place, at_most_is, later_is}
use Rattle.latency_ranks.proofs.places.count_later.Goals as goal

pub halving-preserved-then-le : goal.halving-preserved-then-le
halving-preserved-then-le c =
    let low = c.halving.low in
    let high = c.halving.high in
    let middle : ℕ = c.halving.low + (c.halving.high - c.halving.low) / 2 in
    let more = c.halving-test.true in
    let within = c.halving.invariant.within in
    let y : Place = get_or c.args.sorted.now (c.halving.low + (c.halving.high - c.halving.low) / 2) (0, 0) in
    IsBetween-right c.args.sorted.now c.args.place y low high (c.halving.low + (c.halving.high - c.halving.low) / 2) c.requires.sorted c.halving.invariant (omega arith) (omega arith)
    (get_or_default c.args.sorted.now (c.halving.low + (c.halving.high - c.halving.low) / 2) (0, 0) y (omega arith))
    (sym (at_most_is y c.args.place) ∙ (sym c.le.ensures ∙ c.if-le.true))

pub halving-preserved : goal.halving-preserved
halving-preserved c =
    let low = c.halving.low in
    let high = c.halving.high in
    let more = c.halving-test.true in
    let within = c.halving.invariant.within in
    let y : Place = get_or c.args.sorted.now (c.halving.low + (c.halving.high - c.halving.low) / 2) (0, 0) in
    IsBetween-left c.args.sorted.now c.args.place y low high (c.halving.low + (c.halving.high - c.halving.low) / 2) c.requires.sorted c.halving.invariant (omega arith) (omega arith)
    (get_or_default c.args.sorted.now (c.halving.low + (c.halving.high - c.halving.low) / 2) (0, 0) y (omega arith))
    (sym (at_most_is y c.args.place) ∙ (sym c.le.ensures ∙ c.if-le.false))

pub returns-clause-later : goal.returns-clause-later
returns-clause-later c = later_is c.args.sorted.now c.args.place c.halving.low c.halving.high c.halving-test.false c.halving.invariant
