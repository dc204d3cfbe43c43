use Rattle.std.proofs.Common.{◌++◌, ◌∷◌, ◌≡◌, ◌∙◌, [], ℕ, List, ap, false, refl, sym}
use Rattle.std.proofs.lemmas.Result.{err_from_is_err_and}
use Rattle.event_lines.specs.Cut.{input_lines}
use Rattle.line_split.specs.declared.split_fault.SplitFault.TheVariants.{Memory}
use Rattle.line_split.specs.inner.Calls.{call_of_line}
use Rattle.line_split.proofs.CarryLemmas.{carried_more, stops_here}
use Rattle.line_split.proofs.LineLemmas.{one_more}
use Rattle.line_split.proofs.reading.carry_on.Goals as goal

pub returns-in_err-extend_from_slice-clause-stops : goal.returns-in_err-extend_from_slice-clause-stops
returns-in_err-extend_from_slice-clause-stops g c =
    let p = err_from_is_err_and c.from_residual.result c.from_residual.ensures.1 in
    rw (p.1, p.2) (λ start before bytes h.
    let more = carried_more (call_of_line c.args.call) c.args.file bytes g.P.OutputFiles.written g.P.OutputFiles.faults start c.args.outputs.now before c.args.pending.now _ _ h c.args.piece.now _ refl in
    stops_here (call_of_line c.args.call) c.args.file (bytes ++ c.args.piece.now) g.P.OutputFiles.written g.P.OutputFiles.faults start c.args.outputs.now before c.args.pending.now _ _ more false Memory tt)

pub returns-in_default-clause-one : goal.returns-in_default-clause-one
returns-in_default-clause-one g c =
    let rest = c.args.carry.now.rest.items in
    let piece = c.args.piece.now in
    let items : c.extend_from_slice.new.self.items ≡ rest ++ piece = c.in_ok-extend_from_slice.ensures.items in
    ap input_lines items ∙ one_more rest piece c.requires.one c.in_default.ensures.last ∙ ap (λ (xs : List ℕ). xs ∷ []) (sym items)
