use Rattle.std.proofs.Common.{refl}
use Rattle.std.proofs.lemmas.Result.{err_from_is_err_and}
use Rattle.line_split.proofs.PendingLemmas.{begins_more, tells_begins, tells_more}
use Rattle.line_split.proofs.putting.put_line.Goals as goal

pub returns-in_err-push_line-clause-begun : goal.returns-in_err-push_line-clause-begun
returns-in_err-push_line-clause-begun g c =
    let p = err_from_is_err_and c.from_residual.result c.from_residual.ensures.1 in
    rw p.1 (λ count before all h. begins_more count before all _ c.args.index _ (tells_begins count before all _ c.args.pending.now h))

pub returns-in-Ok-clause-told : goal.returns-in-Ok-clause-told
returns-in-Ok-clause-told g c = λ count before all h.
    c.in-Ok.ensures.told count before _ (tells_more count before all _ c.args.pending.now h _ c.args.index c.index_mut.result.now c.push_line.new.buffer _ c.requires.within c.index_mut.ensures.value c.in_ok-push_line.ensures refl refl)

pub returns-in-Err-clause-begun : goal.returns-in-Err-clause-begun
returns-in-Err-clause-begun g c = λ count before all h.
    c.in-Err.ensures.begun count before _ (tells_more count before all _ c.args.pending.now h _ c.args.index c.index_mut.result.now c.push_line.new.buffer _ c.requires.within c.index_mut.ensures.value c.in_ok-push_line.ensures refl refl)
