use Rattle.std.proofs.Common.{◌∙◌, List, ℕ, ap, subst}
use Rattle.std.specs.Io.KnownBytes.{append_known}
use Rattle.std.proofs.lemmas.Result.{err_from_is_err_and}
use Rattle.mystery_io.specs.Prefixes.{AppendsPrefix}
use Rattle.line_clean.specs.inner.Carrying.{Passes}
use Rattle.line_clean.proofs.StepLemmas.{carries_cut_at, carries_on, prefix_of_piece}
use Rattle.line_clean.proofs.reading.clean_piece.Goals as goal

pub returns-in_err-take_piece-clause-prefix : goal.returns-in_err-take_piece-clause-prefix
returns-in_err-take_piece-clause-prefix g c =
    let p = err_from_is_err_and c.from_residual.result c.from_residual.ensures.1 in
    rw p.1 (λ start bytes h. carries_cut_at start (g.S.Sink.written c.args.out.now) bytes c.args.carry.now h c.args.piece.now)

pub returns-in_err-write_text-clause-prefix : goal.returns-in_err-write_text-clause-prefix
returns-in_err-write_text-clause-prefix g c =
    let S = g.S.Sink in
    let p = err_from_is_err_and c.from_residual-in_err-write_text.result c.from_residual-in_err-write_text.ensures.1 in
    let text = c.take_piece.new.text.items in
    let passes = subst (λ (xs : List ℕ). Passes xs c.args.carry.now c.args.piece.now text c.take_piece.new.carry) c.new-text.ensures.items c.in_ok-take_piece.ensures.passes in
    let cut = subst (λ (xs : List ℕ). AppendsPrefix (S.written c.args.out.now) (S.written c.write_text.new.sink) xs) c.deref.ensures.value c.in_err-write_text.ensures.prefix in
    rw p.1 (λ start bytes h. prefix_of_piece start (S.written c.args.out.now) bytes c.args.carry.now h (S.written c.write_text.new.sink) c.args.piece.now text c.take_piece.new.carry passes cut)

pub returns-clause-carries : goal.returns-clause-carries
returns-clause-carries g c = λ start bytes h.
    let S = g.S.Sink in
    let text = c.take_piece.new.text.items in
    let passes = subst (λ (xs : List ℕ). Passes xs c.args.carry.now c.args.piece.now text c.take_piece.new.carry) c.new-text.ensures.items c.in_ok-take_piece.ensures.passes in
    carries_on start (S.written c.args.out.now) bytes c.args.carry.now h (S.written c.write_text.new.sink) c.args.piece.now text c.take_piece.new.carry passes
    (c.in_ok-write_text.ensures.all ∙ ap (append_known (S.written c.args.out.now)) c.deref.ensures.value)
