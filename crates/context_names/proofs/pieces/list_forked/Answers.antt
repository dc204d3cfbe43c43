use Rattle.std.proofs.Common.{◌≡◌, ◌<◌, ◌∙◌, All, [], ap, false, get_or, length, subst, sym}
use Rattle.std.specs.Prelude.{slice_index_or}
use Rattle.std.proofs.lemmas.List.{get_or_default}
use Rattle.std.proofs.lemmas.List.Elements.{All-append, All-filter}
use Rattle.context_names.specs.Pieces.{forked_among}
use Rattle.context_names.proofs.ValueLemmas.{flat_next}
use Rattle.context_names.proofs.pieces.list_forked.Goals as goal

pub loop-number-preserved : goal.loop-number-preserved
loop-number-preserved c =
    let order = c.args.order.now in
    let below = c.args.below.now in
    let forked = c.args.forked.now in
    let i = c.loop-number.number-index in
    let n = get_or order i 0 in
    let low = c.requires.within i 0 c.loop-number-test.true in
    let here : c.items.result.now ≡ get_or below n [] = c.items.ensures ∙ c.index-below-number.is ∙ get_or_default below n c.index-below-number.result [] low in
    let some : All (λ y. y < length forked) c.items.result.now = subst (All (λ y. y < length forked)) (sym here) (c.requires.below n [] low) in
    record {
      list = flat_next (λ x. forked_among forked (slice_index_or below x [])) order i c.loop-number.list.items c.push_forked.new.list.items (forked_among forked c.items.result.now) c.loop-number-test.true c.loop-number.invariant.list (ap (forked_among forked) here) c.in_ok-push_forked.ensures;
      within = subst (All (λ y. y < length forked)) (sym c.in_ok-push_forked.ensures) (All-append (λ y. y < length forked) c.loop-number.list.items (forked_among forked c.items.result.now) c.loop-number.invariant.within (All-filter (λ y. slice_index_or forked y false) (λ y. y < length forked) c.items.result.now some));
    }
