use Rattle.std.proofs.Common.{◌≡◌, ℕ, List, [], ◌∷◌, codes, subst, rules}
use Rattle.text_rows.specs.Printing.{PrintsText}
use Rattle.text_rows.specs.Rows.{figure, row_of}
use Rattle.view_rows.proofs.tail_texts.print_tail_head.Goals as goal

-- the header with these figures
abbrev header : ℕ → ℕ → ℕ → List ℕ
header traces slow floor = row_of (codes "tail" ∷ figure (codes "traces") traces ∷ figure (codes "slow") slow ∷ figure (codes "floor") floor ∷ [])

pub returns : goal.returns
returns g c =
    let r = c.args.report.now in
    let traces : c.from.result ≡ r.traces = search rules in
    let slow : c.from-2.result ≡ r.slow = search rules in
    let floor : c.from-3.result ≡ r.floor = search rules in
    let same : header c.from.result c.from-2.result c.from-3.result ≡ header r.traces r.slow r.floor = cc in
    subst (λ (text : List ℕ). PrintsText g.S.Sink.written g.S.Sink.faults c.print_row.result c.args.sink.now c.print_row.new.sink c.args.buffer.now c.print_row.new.buffer text) same c.print_row.ensures.prints
