use Rattle.std.proofs.Common.{ℕ, List, [], ◌∷◌, length, codes, decimal, subst}
use Rattle.std.specs.List.{flat_map}
use Rattle.std.proofs.lemmas.Result.{err_from_is_err_and}
use Rattle.text_rows.specs.Printing.{PrintsText}
use Rattle.trace_rows.specs.inner.NumberedTraces.{NumberedTrace, row_of_trace, vertex_step_row}
use Rattle.trace_rows.proofs.path_texts.print_path.Goals as goal

-- the row of the trace, and the rows of its steps
abbrev head : NumberedTrace → ℕ → List ℕ → List ℕ
head n long chain = row_of_trace (codes "path") n.trace (decimal long ∷ decimal (length chain) ∷ [])

abbrev steps : NumberedTrace → List ℕ → List ℕ
steps n chain = flat_map (vertex_step_row n) chain

pub returns-in_err-print_path_row : goal.returns-in_err-print_path_row
returns-in_err-print_path_row g c =
    let p = err_from_is_err_and c.from_residual.result c.from_residual.ensures.1 in
    rw (p.1, p.2) (c.calls_follow.ensures.goes_on _ _ _ _ c.print_path_row.new.buffer _ (head c.args.numbered.now c.args.chain.now.length c.args.chain.now.vertices) (steps c.args.numbered.now c.args.chain.now.vertices) c.in_err-print_path_row.ensures)

pub returns : goal.returns
returns g c =
    let q = subst (λ (vs : List ℕ). PrintsText g.S.Sink.written g.S.Sink.faults c.print_chain.result c.print_path_row.new.sink c.print_chain.new.sink c.print_path_row.new.buffer c.print_chain.new.buffer (steps c.args.numbered.now vs)) c.items.ensures c.print_chain.ensures in
    c.calls_follow.ensures.follow _ _ _ _ _ _ _ _ (head c.args.numbered.now c.args.chain.now.length c.args.chain.now.vertices) (steps c.args.numbered.now c.args.chain.now.vertices) c.in_ok-print_path_row.ensures q
