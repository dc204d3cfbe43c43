use Rattle.std.proofs.Common.{ℕ, List, [], ◌∷◌, length, codes, decimal, subst}
use Rattle.std.specs.List.{flat_map, range_with_len}
use Rattle.std.proofs.lemmas.Result.{err_from_is_err_and}
use Rattle.text_rows.specs.Printing.{PrintsText}
use Rattle.trace_rows.specs.inner.NumberedTraces.{NumberedTrace, row_of_trace, vertex_slack_row}
use Rattle.trace_rows.proofs.slack_texts.print_table.Goals as goal

-- the row of the trace, and the rows of its segments
abbrev head : NumberedTrace → ℕ → List ℕ
head n longest = row_of_trace (codes "trace") n.trace (decimal longest ∷ [])

abbrev segments : NumberedTrace → List ℕ → ℕ → List ℕ
segments n slacks count = flat_map (vertex_slack_row n slacks) (range_with_len 0 count)

pub returns-in_err-print_length_row : goal.returns-in_err-print_length_row
returns-in_err-print_length_row g c =
    let p = err_from_is_err_and c.from_residual.result c.from_residual.ensures.1 in
    rw (p.1, p.2) (c.calls_follow.ensures.goes_on _ _ _ _ c.print_length_row.new.buffer _ (head c.args.numbered.now c.args.table.now.longest) (segments c.args.numbered.now c.args.table.now.slacks.items (length c.args.numbered.now.weights)) c.in_err-print_length_row.ensures)

pub returns : goal.returns
returns g c =
    let counted = subst (λ (m : ℕ). PrintsText g.S.Sink.written g.S.Sink.faults c.print_first.result c.print_length_row.new.sink c.print_first.new.sink c.print_length_row.new.buffer c.print_first.new.buffer (segments c.args.numbered.now c.as_slice-slacks.result.now m)) c.count.ensures.count c.print_first.ensures in
    let q = subst (λ (slacks : List ℕ). PrintsText g.S.Sink.written g.S.Sink.faults c.print_first.result c.print_length_row.new.sink c.print_first.new.sink c.print_length_row.new.buffer c.print_first.new.buffer (segments c.args.numbered.now slacks (length c.args.numbered.now.weights))) c.as_slice-slacks.ensures.value counted in
    c.calls_follow.ensures.follow _ _ _ _ _ _ _ _ (head c.args.numbered.now c.args.table.now.longest) (segments c.args.numbered.now c.args.table.now.slacks.items (length c.args.numbered.now.weights)) c.in_ok-print_length_row.ensures q
