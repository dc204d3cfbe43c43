use Rattle.std.proofs.Common.{get_or, refl}
use Rattle.std.proofs.lemmas.List.{get_or_default}
use Rattle.context_names.proofs.GroupLemmas.{first_more}
use Rattle.context_names.proofs.pieces.push_first.Goals as goal

pub loop-number-preserved : goal.loop-number-preserved
loop-number-preserved c =
    let groups = c.args.groups.now in
    let list = c.args.list.now in
    let i = c.loop-number.number-index in
    let x = get_or list i 0 in
    first_more groups list c.loop-number.first.items c.push_new.new.first.items c.loop-number.is_seen c.push_new.new.is_seen i x (get_or groups x 0) c.loop-number.invariant c.loop-number-test.true (get_or_default list i 0 x c.loop-number-test.true) refl
    (c.requires.groups x 0 (c.requires.within i 0 c.loop-number-test.true)) c.in_ok-push_new.ensures.first c.in_ok-push_new.ensures.seen
