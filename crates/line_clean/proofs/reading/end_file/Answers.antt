use Rattle.std.proofs.Common.{◌∙◌, ◌++◌, List, ℕ, [], ap, subst}
use Rattle.std.specs.Io.KnownBytes.{append_known}
use Rattle.std.proofs.lemmas.Result.{err_from_is_err_and}
use Rattle.mystery_io.specs.Prefixes.{AppendsPrefix}
use Rattle.line_clean.specs.inner.Carrying.{text_with}
use Rattle.line_clean.proofs.StepLemmas.{carries_cut, carries_end, prefix_of_end}
use Rattle.line_clean.proofs.reading.end_file.Goals as goal

pub returns-in_err-end_line-clause-prefix : goal.returns-in_err-end_line-clause-prefix
returns-in_err-end_line-clause-prefix g c =
    let p = err_from_is_err_and c.from_residual.result c.from_residual.ensures.1 in
    rw p.1 (λ start bytes h. carries_cut start (g.S.Sink.written c.args.out.now) bytes c.args.carry.now h)

pub returns-in_err-write_text-clause-prefix : goal.returns-in_err-write_text-clause-prefix
returns-in_err-write_text-clause-prefix g c =
    let S = g.S.Sink in
    let p = err_from_is_err_and c.from_residual-in_err-write_text.result c.from_residual-in_err-write_text.ensures.1 in
    let text = c.end_line.new.text.items in
    let is = c.in_ok-end_line.ensures.ends ∙ ap (λ (xs : List ℕ). xs ++ text_with c.args.carry.now []) c.new-text.ensures.items in
    let cut = subst (λ (xs : List ℕ). AppendsPrefix (S.written c.args.out.now) (S.written c.write_text.new.sink) xs) c.deref.ensures.value c.in_err-write_text.ensures.prefix in
    rw p.1 (λ start bytes h. prefix_of_end start (S.written c.args.out.now) bytes c.args.carry.now h (S.written c.write_text.new.sink) text is cut)

pub returns-clause-written : goal.returns-clause-written
returns-clause-written g c = λ start bytes h.
    let S = g.S.Sink in
    let text = c.end_line.new.text.items in
    let is = c.in_ok-end_line.ensures.ends ∙ ap (λ (xs : List ℕ). xs ++ text_with c.args.carry.now []) c.new-text.ensures.items in
    carries_end start (S.written c.args.out.now) bytes c.args.carry.now h (S.written c.write_text.new.sink) text is
    (c.in_ok-write_text.ensures.all ∙ ap (append_known (S.written c.args.out.now)) c.deref.ensures.value)
