use Rattle.std.proofs.Common.{List, Bool, false, length, replicate, ap, ◌∙◌}
use Rattle.std.proofs.lemmas.List.{with_items_is}
use Rattle.std.specs.Vec.{with_items}
use Rattle.word_rows.specs.Machine.{StepState}
use Rattle.step_core.proofs.FollowLemmas.{close_follows}
use Rattle.step_core.proofs.tables.Tables.close.Goals as goal

pub returns-clause-follows : goal.returns-clause-follows
returns-clause-follows c = λ s is.
    let i = c.self.inside in let l = c.fill.new.self in
    let t : StepState = record { words = i.words.items; all = i.all; views = i.seats.items; live = i.live.items } in
    let same = with_items_is i.live l (c.fill.ensures.len ∙ c.as_mut_slice.ensures.len) in
    close_follows t c.args.seat (with_items i.live l).items (same ∙ c.fill.ensures.after (λ y e. e) ∙ ap (λ (l : List Bool). replicate (length l) false) c.as_mut_slice.ensures.value) s (c.self.view_is ∙ is)
