use Rattle.std.proofs.Common.{◌≡◌, ◌∙◌, ◌+◌, ◌++◌, ◌∷◌, ℕ, List, length, take, drop, ap, append_assoc, false, refl, sym, subst}
use Rattle.std.proofs.lemmas.List.{take_rest}
use Rattle.std.proofs.lemmas.Result.{err_from_is_err_and}
use Rattle.line_split.specs.declared.split_fault.SplitFault.TheVariants.{Memory}
use Rattle.line_split.specs.inner.Calls.{call_of_line}
use Rattle.line_split.specs.inner.Steps.{Carried}
use Rattle.line_split.proofs.CarryLemmas.{carried_more, carried_on, stops_chunk, stops_here}
use Rattle.line_split.proofs.StepLemmas.{nothing, splits_ok}
use Rattle.line_split.proofs.reading.split_ended.Goals as goal

-- what is carried, with the piece behind it, is cut at the last line feed
cut_at : (rest piece chunk : List ℕ) (at : ℕ) → chunk ≡ rest ++ take at piece → piece ≡ take at piece ++ 10 ∷ drop (at + 1) piece → rest ++ piece ≡ chunk ++ 10 ∷ drop (at + 1) piece
cut_at rest piece chunk at is cut =
    ap (λ xs. rest ++ xs) cut ∙ sym (append_assoc rest (take at piece) (10 ∷ drop (at + 1) piece)) ∙ ap (λ xs. xs ++ 10 ∷ drop (at + 1) piece) (sym is)

pub returns-in_err-extend_from_slice-clause-stops : goal.returns-in_err-extend_from_slice-clause-stops
returns-in_err-extend_from_slice-clause-stops g c =
    let P = g.P.OutputFiles in
    let call = call_of_line c.args.call in
    let piece = c.args.piece.now in
    let p = err_from_is_err_and c.from_residual.result c.from_residual.ensures.1 in
    rw (p.1, p.2) (λ start before bytes h.
    let more = carried_more call c.args.file bytes P.written P.faults start c.args.outputs.now before c.args.pending.now _ _ h piece _ refl in
    stops_here call c.args.file (bytes ++ piece) P.written P.faults start c.args.outputs.now before c.args.pending.now _ _ more false Memory tt)

pub returns-in_err-carry-clause-stops : goal.returns-in_err-carry-clause-stops
returns-in_err-carry-clause-stops g c =
    let P = g.P.OutputFiles in
    let call = call_of_line c.args.call in
    let p = err_from_is_err_and c.from_residual-in_err-carry.result c.from_residual-in_err-carry.ensures.1 in
    let rest = c.args.carry.now.rest.items in
    let piece = c.args.piece.now in
    let chunk = c.deref.result.now in
    let at = c.args.at in
    let is = cut_at rest piece chunk at (c.deref.ensures.value ∙ c.in_ok-extend_from_slice.ensures.items) c.requires.cut in
    rw (p.1, p.2) (λ start before bytes h.
    let more = carried_more call c.args.file bytes P.written P.faults start c.args.outputs.now before c.args.pending.now _ _ h piece (rest ++ piece) refl in
    stops_chunk call c.args.file (bytes ++ piece) P.written P.faults start c.args.outputs.now before c.args.pending.now _ _ more c.pieces_say_what_the_whole_says.ensures.lines
    chunk (drop (at + 1) piece) is ℕ _ c.split_chunk.new.files c.split_chunk.new.pending (c.in_err-carry.ensures.split (1 + length more.lines) more.numbered))

pub returns-in_err-carry-2-clause-stops : goal.returns-in_err-carry-2-clause-stops
returns-in_err-carry-2-clause-stops g c =
    let P = g.P.OutputFiles in
    let call = call_of_line c.args.call in
    let p = err_from_is_err_and c.from_residual-in_err-carry-2.result c.from_residual-in_err-carry-2.ensures.1 in
    let rest = c.args.carry.now.rest.items in
    let piece = c.args.piece.now in
    let chunk = c.deref.result.now in
    let at = c.args.at in
    let is = cut_at rest piece chunk at (c.deref.ensures.value ∙ c.in_ok-extend_from_slice.ensures.items) c.requires.cut in
    rw (p.1, p.2) (λ start before bytes h.
    let more = carried_more call c.args.file bytes P.written P.faults start c.args.outputs.now before c.args.pending.now _ _ h piece (rest ++ piece) refl in
    let n = 1 + length more.lines in
    let on = carried_on call c.args.file (bytes ++ piece) P.written P.faults start c.args.outputs.now before c.args.pending.now _ _ more c.pieces_say_what_the_whole_says.ensures.lines chunk (drop (at + 1) piece) is
    c.split_chunk.new.files c.split_chunk.new.pending c.in_ok-carry.field-0 (c.in_ok-carry.ensures.next n more.numbered)
    (splits_ok call P.written P.faults c.in_ok-carry.field-0 nothing _ c.args.outputs.now c.split_chunk.new.files c.args.pending.now c.split_chunk.new.pending (c.in_ok-carry.ensures.split n more.numbered)) in
    stops_here call c.args.file (bytes ++ piece) P.written P.faults start c.split_chunk.new.files before c.split_chunk.new.pending _ _ on false Memory tt)

pub returns-clause-carried : goal.returns-clause-carried
returns-clause-carried g c = λ start before bytes h.
    let P = g.P.OutputFiles in
    let call = call_of_line c.args.call in
    let rest = c.args.carry.now.rest.items in
    let piece = c.args.piece.now in
    let chunk = c.deref.result.now in
    let at = c.args.at in
    let is = cut_at rest piece chunk at (c.deref.ensures.value ∙ c.in_ok-extend_from_slice.ensures.items) c.requires.cut in
    let more = carried_more call c.args.file bytes P.written P.faults start c.args.outputs.now before c.args.pending.now _ _ h piece (rest ++ piece) refl in
    let n = 1 + length more.lines in
    let on = carried_on call c.args.file (bytes ++ piece) P.written P.faults start c.args.outputs.now before c.args.pending.now _ _ more c.pieces_say_what_the_whole_says.ensures.lines chunk (drop (at + 1) piece) is
    c.split_chunk.new.files c.split_chunk.new.pending c.in_ok-carry.field-0 (c.in_ok-carry.ensures.next n more.numbered)
    (splits_ok call P.written P.faults c.in_ok-carry.field-0 nothing _ c.args.outputs.now c.split_chunk.new.files c.args.pending.now c.split_chunk.new.pending (c.in_ok-carry.ensures.split n more.numbered)) in
    let items : c.in_ok-carry-2.field-0.items ≡ drop (at + 1) piece = c.in_ok-carry-2.ensures.items ∙ take_rest piece (at + 1) in
    subst (λ (xs : List ℕ). Carried call c.args.file (bytes ++ piece) P.written P.faults start c.split_chunk.new.files before c.split_chunk.new.pending xs c.in_ok-carry.field-0) (sym items) on

pub returns-clause-rest : goal.returns-clause-rest
returns-clause-rest g c = c.in_ok-carry-2.ensures.items ∙ take_rest c.args.piece.now (c.args.at + 1)
