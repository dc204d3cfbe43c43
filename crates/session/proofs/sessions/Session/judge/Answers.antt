use Rattle.session.proofs.GivenLemmas.{if_ok_three}
use Rattle.session.proofs.JudgeLemmas.{judged_of}
use Rattle.session.proofs.sessions.Session.judge.Goals as goal

pub returns : goal.returns
returns c =
    let old = c.self.inside in
    if_ok_three c.judge.result _ _ _ _ (λ j book given judged s shown. judged_of j old.workers old.book old.given old.watch old.grace c.args.self.now c.self.view_is book given judged s shown) c.judge.ensures.book c.judge.ensures.given c.judge.ensures.judged
