use Rattle.std.proofs.Common.{◌^◌, ◌<◌, ◌∙◌, All, ap, length, subst, sym}
use Rattle.std.proofs.lemmas.Result.{IfErr-weaker, IfOk-weaker}
use Rattle.trace_types.specs.Batch.{PlainTrace, traces_of}
use Rattle.trace_types.specs.Times.{AreTimely}
use Rattle.session.proofs.sessions.Session.add_batch.Goals as goal

pub add_gathered-requires-clause-few : goal.add_gathered-requires-clause-few
add_gathered-requires-clause-few g c κs within =
    (c.args.events, c.in_ok-gathered.ensures.traces ∙ ap traces_of c.into_parts.ensures, c.requires.few)

pub add_gathered-requires-clause-short : goal.add_gathered-requires-clause-short
add_gathered-requires-clause-short g c κs within =
    subst (All (λ (t : PlainTrace). length t.events < 2 ^ 32)) (sym (c.in_ok-gathered.ensures.traces ∙ ap traces_of c.into_parts.ensures)) (c.traces_keep_facts.ensures.few c.args.events (2 ^ 32) c.requires.short)

pub add_gathered-requires-clause-timely : goal.add_gathered-requires-clause-timely
add_gathered-requires-clause-timely g c κs within =
    subst (All (λ (t : PlainTrace). AreTimely t.events)) (sym (c.in_ok-gathered.ensures.traces ∙ ap traces_of c.into_parts.ensures)) (c.traces_keep_facts.ensures.timely c.args.events c.requires.timely)

pub gather-requires : goal.gather-requires
gather-requires g c = (c.type_bounds.sync-R, rw c.into_parts.ensures c.requires.short)

pub returns-clause-added : goal.returns-clause-added
returns-clause-added g c =
    let same = c.in_ok-gathered.ensures.traces ∙ ap traces_of c.into_parts.ensures in
    IfOk-weaker c.add_gathered.result _ _ (λ a told s shown. told c.args.events same s shown) c.add_gathered.ensures.added

pub returns-clause-kept : goal.returns-clause-kept
returns-clause-kept g c =
    let same = c.in_ok-gathered.ensures.traces ∙ ap traces_of c.into_parts.ensures in
    IfOk-weaker c.add_gathered.result _ _ (λ a kept. kept c.args.events same) c.add_gathered.ensures.kept

pub returns-clause-cause : goal.returns-clause-cause
returns-clause-cause g c =
    let same = c.in_ok-gathered.ensures.traces ∙ ap traces_of c.into_parts.ensures in
    IfErr-weaker c.add_gathered.result _ _ (λ fault told s shown. told c.args.events same s shown) c.add_gathered.ensures.cause
