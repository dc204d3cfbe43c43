use Rattle.std.proofs.Common.{◌≡◌, ℕ, List, [], ◌∷◌, codes, length, subst, rules}
use Rattle.text_rows.specs.Printing.{PrintsText}
use Rattle.text_rows.specs.Rows.{figure, row_of}
use Rattle.view_rows.proofs.model_printing.print_header.Goals as goal

-- the header with these figures
abbrev header : ℕ → ℕ → ℕ → ℕ → ℕ → ℕ → ℕ → List ℕ
header traces days names tasks hb mx pipe = row_of (codes "model" ∷ figure (codes "traces") traces ∷ figure (codes "days") days ∷ figure (codes "segments") names
    ∷ figure (codes "tasks") tasks ∷ figure (codes "hb") hb ∷ figure (codes "mx") mx ∷ figure (codes "pipe") pipe ∷ [])

pub returns : goal.returns
returns g c =
    let m = c.args.model.now in
    let names : c.from.result ≡ m.names = search rules in
    let tasks : c.from-2.result ≡ m.tasks = search rules in
    let hb : c.len.result ≡ length m.hb.items = search rules in
    let mx : c.len-2.result ≡ length m.mx.items = search rules in
    let pipe : c.len-3.result ≡ length m.pipe.items = search rules in
    let same : header m.traces m.days c.from.result c.from-2.result c.len.result c.len-2.result c.len-3.result ≡ header m.traces m.days m.names m.tasks (length m.hb.items) (length m.mx.items) (length m.pipe.items) = cc in
    subst (λ (text : List ℕ). PrintsText g.S.Sink.written g.S.Sink.faults c.print_row.result c.args.sink.now c.print_row.new.sink c.args.buffer.now c.print_row.new.buffer text) same c.print_row.ensures.prints
