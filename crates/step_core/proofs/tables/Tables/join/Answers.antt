use Rattle.std.proofs.Common.{ap, ◌∙◌}
use Rattle.word_rows.specs.declared.events.StepEvent.TheVariants.{Join as join}
use Rattle.word_rows.specs.Machine.{StepState, fault_of}
use Rattle.step_core.proofs.MadeLemmas.{join_made}
use Rattle.step_core.proofs.tables.Tables.join.Goals as goal

pub returns-clause-follows : goal.returns-clause-follows
returns-clause-follows c = λ s is.
    let i = c.self.inside in
    let t : StepState = record { words = i.words.items; all = i.all; views = i.seats.items; live = i.live.items } in
    join_made t c.args.seat c.self.invariant.1 c.args.other (ap (λ (u : StepState). fault_of u (join c.args.seat c.args.other)) c.self.view_is ∙ c.requires.allowed)
    c.index_mut-view.result.now c.index.result.now c.set_shares.new.self c.new.result c.shares.result c.shares-more.result c.index_mut-view.ensures.value c.index.ensures c.shares.ensures c.shares-more.ensures c.set_shares.ensures c.new.ensures s (c.self.view_is ∙ is)
