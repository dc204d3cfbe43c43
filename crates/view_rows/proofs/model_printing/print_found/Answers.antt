use Rattle.std.proofs.Common.{ℕ, List, ◌++◌, codes}
use Rattle.std.specs.List.{flat_map}
use Rattle.std.proofs.lemmas.Result.{err_from_is_err_and}
use Rattle.session_rules.specs.ModelTexts.{header_row, pair_row, pipe_row}
use Rattle.view_rows.specs.declared.found_model.FoundModel.{FoundModel}
use Rattle.view_rows.specs.inner.Found.{figures_in}
use Rattle.view_rows.proofs.model_printing.print_found.Goals as goal

-- the four kinds of rows
abbrev head : FoundModel → List ℕ
head m = header_row m.traces (figures_in m)

abbrev orders : FoundModel → List ℕ
orders m = flat_map (pair_row (codes "hb")) m.hb.items

abbrev exclusions : FoundModel → List ℕ
exclusions m = flat_map (pair_row (codes "mx")) m.mx.items

abbrev pipes : FoundModel → List ℕ
pipes m = flat_map pipe_row m.pipe.items

pub returns-in_err-print_header : goal.returns-in_err-print_header
returns-in_err-print_header g c =
    let m = c.args.model.now in
    let p = err_from_is_err_and c.from_residual.result c.from_residual.ensures.1 in
    rw (p.1, p.2) (c.calls_follow.ensures.goes_on _ _ _ _ c.print_header.new.buffer _ (head m) (orders m ++ (exclusions m ++ pipes m)) c.in_err-print_header.ensures)

pub returns-in_err-print_orders : goal.returns-in_err-print_orders
returns-in_err-print_orders g c =
    let m = c.args.model.now in
    let p = err_from_is_err_and c.from_residual-in_err-print_orders.result c.from_residual-in_err-print_orders.ensures.1 in
    rw (p.1, p.2) (c.calls_follow.ensures.follow _ _ _ _ _ _ _ _ (head m) (orders m ++ (exclusions m ++ pipes m)) c.in_ok-print_header.ensures
    (c.calls_follow.ensures.goes_on _ _ _ _ c.print_orders.new.buffer _ (orders m) (exclusions m ++ pipes m) c.in_err-print_orders.ensures))

pub returns-in_err-print_exclusions : goal.returns-in_err-print_exclusions
returns-in_err-print_exclusions g c =
    let m = c.args.model.now in
    let p = err_from_is_err_and c.from_residual-in_err-print_exclusions.result c.from_residual-in_err-print_exclusions.ensures.1 in
    rw (p.1, p.2) (c.calls_follow.ensures.follow _ _ _ _ _ _ _ _ (head m) (orders m ++ (exclusions m ++ pipes m)) c.in_ok-print_header.ensures
    (c.calls_follow.ensures.follow _ _ _ _ _ _ _ _ (orders m) (exclusions m ++ pipes m) c.in_ok-print_orders.ensures
    (c.calls_follow.ensures.goes_on _ _ _ _ c.print_exclusions.new.buffer _ (exclusions m) (pipes m) c.in_err-print_exclusions.ensures)))

pub returns : goal.returns
returns g c =
    let m = c.args.model.now in
    c.calls_follow.ensures.follow _ _ _ _ _ _ _ _ (head m) (orders m ++ (exclusions m ++ pipes m)) c.in_ok-print_header.ensures
    (c.calls_follow.ensures.follow _ _ _ _ _ _ _ _ (orders m) (exclusions m ++ pipes m) c.in_ok-print_orders.ensures
    (c.calls_follow.ensures.follow _ _ _ _ _ _ _ _ (exclusions m) (pipes m) c.in_ok-print_exclusions.ensures c.print_pipes.ensures))
