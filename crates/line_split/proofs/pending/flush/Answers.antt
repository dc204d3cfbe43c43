use Rattle.std.proofs.Common.{◌≡◌, ◌∙◌, ℕ, Global, ap, arith, refl, set}
use Rattle.std.specs.declared.vec.Vec.{Vec}
use Rattle.std.proofs.lemmas.List.{map-set}
use Rattle.std.proofs.lemmas.Result.{err_from_is_err_and}
use Rattle.line_split.specs.inner.Pending.{buffer_at, buffers_of}
use Rattle.line_split.proofs.PendingLemmas.{cut_begins, over_set, read_buffer, tells_written}
use Rattle.line_split.proofs.pending.flush.Goals as goal

pub overflow_add-pending : goal.overflow_add-pending
overflow_add-pending g c = omega (arith, c.requires.over.fits, c.requires.within)

pub write_all-requires : goal.write_all-requires
write_all-requires g c = omega (arith, c.requires.over.within, c.requires.within)

pub returns-in_err-write_all-clause-begun : goal.returns-in_err-write_all-clause-begun
returns-in_err-write_all-clause-begun g c =
    let p = err_from_is_err_and c.from_residual.result c.from_residual.ensures.1 in
    let bytes : c.deref.result.now ≡ buffer_at c.args.pending.now c.args.index = c.deref.ensures.value ∙ read_buffer c.args.pending.now c.args.index c.index.result.now c.requires.within c.index.ensures in
    rw p.1 (λ count before all h. cut_begins count before all _ c.args.pending.now h _ c.args.index c.deref.result.now c.requires.within bytes c.in_err-write_all.ensures.prefix)

pub returns-clause-over : goal.returns-clause-over
returns-clause-over g c = over_set _ _ c.args.pending.now _ c.args.index _ c.deref.result.now c.clear.new.self c.requires.over c.in_ok-write_all.ensures.all refl refl

pub returns-clause-told : goal.returns-clause-told
returns-clause-told g c = λ count before all h.
    let bytes : c.deref.result.now ≡ buffer_at c.args.pending.now c.args.index = c.deref.ensures.value ∙ read_buffer c.args.pending.now c.args.index c.index.result.now c.requires.within c.index.ensures in
    tells_written count before all _ c.args.pending.now h _ _ c.args.index c.deref.result.now c.clear.new.self c.requires.within bytes c.in_ok-write_all.ensures.all c.clear.ensures.items refl refl

pub returns-clause-emptied : goal.returns-clause-emptied
returns-clause-emptied g c = map-set (λ (v : Vec ℕ Global). v.items) c.args.pending.now.buffers.items c.args.index c.clear.new.self ∙ ap (set (buffers_of c.args.pending.now) c.args.index) c.clear.ensures.items
