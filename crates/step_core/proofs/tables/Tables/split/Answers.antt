use Rattle.std.proofs.Common.{Bool, true, List, ◌++◌, ◌∷◌, [], get_or, set, ap, ◌∙◌}
use Rattle.word_rows.specs.declared.events.StepEvent.TheVariants.{Split as split}
use Rattle.word_rows.specs.declared.views.View.{View}
use Rattle.word_rows.specs.Machine.{StepState, fault_of}
use Rattle.step_core.proofs.MadeLemmas.{split_made}
use Rattle.step_core.proofs.tables.Tables.split.Goals as goal

pub returns-clause-follows : goal.returns-clause-follows
returns-clause-follows c = λ s is.
    let i = c.self.inside in
    let t : StepState = record { words = i.words.items; all = i.all; views = i.seats.items; live = i.live.items } in
    let v : View = c.index_mut-view.result.now in
    split_made t c.args.seat c.self.invariant.1 c.args.shares (ap (λ (u : StepState). fault_of u (split c.args.seat c.args.shares)) c.self.view_is ∙ c.requires.allowed)
    v c.set_shares.new.self c.new.result c.shares.result (c.index_mut-view.ensures.value ∙ ap (λ (l : List View). get_or l c.args.seat v) c.reserve.ensures.items) c.shares.ensures c.set_shares.ensures c.new.ensures
    c.push_reserved.new.self.items c.push_reserved-2.new.self.items (c.push_reserved.ensures.items ∙ ap (λ (l : List View). set l c.args.seat c.set_shares.new.self ++ c.new.result ∷ []) c.reserve.ensures.items) (c.push_reserved-2.ensures.items ∙ ap (λ (l : List Bool). l ++ true ∷ []) c.in_ok-reserve-2.ensures.items) s (c.self.view_is ∙ is)
