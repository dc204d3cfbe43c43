use Rattle.std.proofs.Common.{◌≡◌, ◌^◌, ◌<◌, ◌++◌, ◌∷◌, [], ℕ, List, Some, true, slice_get, map, length, get_or, take, All, arith, sym, ap, ◌∙◌, subst}
use Rattle.std.specs.Prelude.{sum}
use Rattle.std.proofs.lemmas.List.{map_push, take_all, take_more}
use Rattle.std.proofs.lemmas.List.Elements.{All-push}
use Rattle.std.proofs.lemmas.Option.{get_or_from_slice_get}
use Rattle.trace_paths.specs.NameOrders.{number_cmp}
use Rattle.trace_types.specs.Listing.{ListsExactly}
use Rattle.slow_tail.specs.declared.tail_row.TailRow.{TailRow}
use Rattle.slow_tail.specs.inner.TableRows.{IsTailRowFrom}
use Rattle.trace_paths.specs.Tables.{list_at}
use Rattle.slow_tail.proofs.TailLemmas.{name_within}
use Rattle.slow_tail.proofs.rows.make_rows.Goals as goal

pub of-slow-requires : goal.of-slow-requires
of-slow-requires c =
    let lt = name_within (number_cmp c.args.catalogue.now.names) c.args.marked.now c.in_ok-names.names.items c.deref-name-items.result.now c.names.name-index c.in_ok-names.ensures c.deref-name-items.ensures.value c.names-test.true in
    let marked = c.requires.marked in
    let slow = c.requires.slow in
    omega arith

pub of-rest-requires : goal.of-rest-requires
of-rest-requires c =
    let lt = name_within (number_cmp c.args.catalogue.now.names) c.args.marked.now c.in_ok-names.names.items c.deref-name-items.result.now c.names.name-index c.in_ok-names.ensures c.deref-name-items.ensures.value c.names-test.true in
    let marked = c.requires.marked in
    let rest = c.requires.rest in
    omega arith

pub make_row-requires-clause-slow : goal.make_row-requires-clause-slow
make_row-requires-clause-slow c =
    let n = get_or c.deref-name-items.result.now c.names.name-index 0 in
    let lt = name_within (number_cmp c.args.catalogue.now.names) c.args.marked.now c.in_ok-names.names.items c.deref-name-items.result.now c.names.name-index c.in_ok-names.ensures c.deref-name-items.ensures.value c.names-test.true in
    let marked = c.requires.marked in
    let slow = c.requires.slow in
    subst (λ (ns : List ℕ). length ns < 2 ^ 32) (get_or_from_slice_get c.args.tables.now.slow n c.of-slow.result.now [] c.of-slow.ensures) (c.requires.short_slow n [] (omega arith))

pub make_row-requires-clause-rest : goal.make_row-requires-clause-rest
make_row-requires-clause-rest c =
    let n = get_or c.deref-name-items.result.now c.names.name-index 0 in
    let lt = name_within (number_cmp c.args.catalogue.now.names) c.args.marked.now c.in_ok-names.names.items c.deref-name-items.result.now c.names.name-index c.in_ok-names.ensures c.deref-name-items.ensures.value c.names-test.true in
    let marked = c.requires.marked in
    let rest = c.requires.rest in
    subst (λ (ns : List ℕ). length ns < 2 ^ 32) (get_or_from_slice_get c.args.tables.now.rest n c.of-rest.result.now [] c.of-rest.ensures) (c.requires.short_rest n [] (omega arith))

pub names-preserved : goal.names-preserved
names-preserved c =
    let items = c.deref-name-items.result.now in
    let i = c.names.name-index in
    let n = get_or items i 0 in
    let lt = name_within (number_cmp c.args.catalogue.now.names) c.args.marked.now c.in_ok-names.names.items items i c.in_ok-names.ensures c.deref-name-items.ensures.value c.names-test.true in
    let marked = c.requires.marked in
    let count = c.requires.slow in
    let slow_table = c.args.tables.now.slow in
    let rest_table = c.args.tables.now.rest in
    let row : TailRow = c.make_row.result in
    let same : row.name ≡ n = c.make_row.ensures.name in
    let slow : list_at slow_table row.name ≡ c.of-slow.result.now = ap (list_at slow_table) same ∙ get_or_from_slice_get slow_table n c.of-slow.result.now [] c.of-slow.ensures in
    let rest : list_at rest_table row.name ≡ c.of-rest.result.now = ap (list_at rest_table) same ∙ get_or_from_slice_get rest_table n c.of-rest.result.now [] c.of-rest.ensures in
    let is : IsTailRowFrom slow_table rest_table row = record {
      below = omega arith;
      slow_on = c.make_row.ensures.slow_on ∙ ap length (sym slow);
      slow_sum = c.make_row.ensures.slow_sum ∙ ap sum (sym slow);
      rest_on = c.make_row.ensures.rest_on ∙ ap length (sym rest);
      rest_sum = c.make_row.ensures.rest_sum ∙ ap sum (sym rest);
    } in
    rw c.in_ok-push.ensures.items (record {
      names = map_push (λ (r : TailRow). r.name) c.names.rows.items row ∙ (ap (λ (l : List ℕ). l ++ row.name ∷ []) c.names.invariant.names ∙ (ap (λ (m : ℕ). take i items ++ m ∷ []) same ∙ sym (take_more items i 0 c.names-test.true)));
      rows = All-push (IsTailRowFrom slow_table rest_table) c.names.rows.items row c.names.invariant.rows is;
    })

pub returns-clause-names : goal.returns-clause-names
returns-clause-names c =
    let items = c.deref-name-items.result.now in
    subst (ListsExactly (number_cmp c.args.catalogue.now.names) (λ n. slice_get c.args.marked.now n ≡ Some true))
    (sym (c.names.invariant.names ∙ (take_all c.names.name-index items c.names-test.false ∙ c.deref-name-items.ensures.value))) c.in_ok-names.ensures
