use Rattle.std.proofs.Common.{◌+◌, List, [], arith, refl, subst, sym}
use Rattle.std.proofs.lemmas.Result.{err_from_is_err_and}
use Rattle.output_files.specs.Written.{WrittenFile}
use Rattle.line_split.specs.Parts.{made_name, part_file}
use Rattle.line_split.specs.inner.Pending.{BeginsFiles}
use Rattle.line_split.specs.inner.Calls.{call_of_line}
use Rattle.line_split.proofs.MakeLemmas.{begins_made, begins_within, tells_made}
use Rattle.line_split.proofs.making.make_file.Goals as goal

pub returns-in_err-beginning-clause-begun : goal.returns-in_err-beginning-clause-begun
returns-in_err-beginning-clause-begun g c =
    let p = err_from_is_err_and c.from_residual.result c.from_residual.ensures.1 in
    let parts = c.args.call.parts in
    rw p.1 (λ before h. begins_within c.args.index before (part_file (call_of_line c.args.call) []) _ c.args.pending.now h (parts + parts) (omega (arith, c.requires.within)))

pub returns-in_err-create-clause-begun : goal.returns-in_err-create-clause-begun
returns-in_err-create-clause-begun g c =
    let p = err_from_is_err_and c.from_residual-in_err-create.result c.from_residual-in_err-create.ensures.1 in
    let parts = c.args.call.parts in
    let all = part_file (call_of_line c.args.call) [] in
    rw p.1 (λ before h. subst (λ (w : List WrittenFile). BeginsFiles (parts + parts) before all w) (sym c.in_err-create.ensures.stays) (begins_within c.args.index before all _ c.args.pending.now h (parts + parts) (omega (arith, c.requires.within))))

pub returns-in_err-push-clause-begun : goal.returns-in_err-push-clause-begun
returns-in_err-push-clause-begun g c =
    let p = err_from_is_err_and c.from_residual-in_err-push.result c.from_residual-in_err-push.ensures.1 in
    let parts = c.args.call.parts in
    let call = call_of_line c.args.call in
    rw p.1 (λ before h. begins_made c.args.index before (part_file call []) _ c.args.pending.now h (parts + parts) _ (made_name call c.args.index) c.requires.within c.in_ok-create.ensures.made refl)

pub returns-clause-told : goal.returns-clause-told
returns-clause-told g c = λ before h.
    let call = call_of_line c.args.call in
    tells_made c.args.index before (part_file call []) _ c.args.pending.now h _ _ (made_name call c.args.index) c.in_ok-beginning.beginning c.in_ok-create.ensures.made refl c.in_ok-beginning.ensures refl c.in_ok-push.ensures.items
