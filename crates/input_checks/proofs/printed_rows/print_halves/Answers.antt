use Rattle.std.proofs.Common.{ℕ, List, [], ◌∷◌, codes, decimal}
use Rattle.std.proofs.lemmas.Result.{err_from_is_err_and}
use Rattle.text_rows.specs.Rows.{row_of}
use Rattle.input_checks.proofs.printed_rows.print_halves.Goals as goal

-- the two rows
abbrev number_row : ℕ → List ℕ
number_row number = row_of (codes "number" ∷ decimal number ∷ [])

abbrev half_row : ℕ → List ℕ
half_row half = row_of (codes "half" ∷ decimal half ∷ [])

pub returns-in_err-print : goal.returns-in_err-print
returns-in_err-print g c =
    let p = err_from_is_err_and c.from_residual.result c.from_residual.ensures.1 in
    rw (p.1, p.2) (c.calls_follow.ensures.goes_on _ _ _ _ c.print.new.buffer _ (number_row c.args.number) (half_row c.args.half) c.in_err-print.ensures)

pub returns : goal.returns
returns g c = c.calls_follow.ensures.follow _ _ _ _ _ _ _ _ (number_row c.args.number) (half_row c.args.half) c.in_ok-print.ensures c.print-2.ensures
