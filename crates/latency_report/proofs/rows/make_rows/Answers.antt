use Rattle.std.proofs.Common.{◌≡◌, ◌<◌, ◌^◌, ◌++◌, ◌∷◌, [], ℕ, List, map, length, get_or, take, All, arith, sym, ap, ◌∙◌, subst}
use Rattle.std.specs.Prelude.{sum}
use Rattle.std.proofs.lemmas.List.{map_push, take_all, take_more}
use Rattle.std.proofs.lemmas.List.Elements.{All-push}
use Rattle.std.proofs.lemmas.Option.{get_or_from_slice_get}
use Rattle.trace_types.specs.Listing.{ListsExactly}
use Rattle.trace_paths.specs.NameOrders.{number_cmp}
use Rattle.latency_report.specs.declared.segment_row.SegmentRow.{SegmentRow}
use Rattle.latency_report.specs.inner.TableRows.{IsRowFrom}
use Rattle.trace_paths.specs.Tables.{list_at}
use Rattle.trace_rules.specs.Numbers.{AreFigures}
use Rattle.latency_report.proofs.RowLemmas.{has_some, name_within, names_listed}
use Rattle.latency_report.proofs.rows.make_rows.Goals as goal

pub of-steps-requires : goal.of-steps-requires
of-steps-requires c =
    let listed = names_listed (number_cmp c.args.catalogue.now.names) c.args.durations c.in_ok-figures.figures.items c.in_ok-marked.marked.items c.deref-2.result.now c.in_ok-names.names.items
    c.in_ok-figures.ensures.count c.in_ok-figures.ensures.figures (c.in_ok-marked.ensures ∙ ap (map has_some) c.deref.ensures.value) c.deref-2.ensures.value c.in_ok-names.ensures in
    let items = c.deref-name-items.result.now in
    let i = c.names.name-index in
    let n = get_or items i 0 in
    let lt : n < length c.args.durations = name_within (number_cmp c.args.catalogue.now.names) c.args.durations c.in_ok-names.names.items items i listed c.deref-name-items.ensures.value c.names-test.true in
    let same = c.requires.names in
    let steps = c.requires.steps in
    omega arith

pub sum_and_greatest-sum-requires : goal.sum_and_greatest-sum-requires
sum_and_greatest-sum-requires c =
    let listed = names_listed (number_cmp c.args.catalogue.now.names) c.args.durations c.in_ok-figures.figures.items c.in_ok-marked.marked.items c.deref-2.result.now c.in_ok-names.names.items
    c.in_ok-figures.ensures.count c.in_ok-figures.ensures.figures (c.in_ok-marked.ensures ∙ ap (map has_some) c.deref.ensures.value) c.deref-2.ensures.value c.in_ok-names.ensures in
    let items = c.deref-name-items.result.now in
    let i = c.names.name-index in
    let n = get_or items i 0 in
    let lt : n < length c.args.durations = name_within (number_cmp c.args.catalogue.now.names) c.args.durations c.in_ok-names.names.items items i listed c.deref-name-items.ensures.value c.names-test.true in
    let same = c.requires.names in
    let steps = c.requires.steps in
    subst (λ (ns : List ℕ). length ns < 2 ^ 32) (get_or_from_slice_get c.args.on_paths.now n c.of-steps.result.now [] c.of-steps.ensures) (c.requires.short_steps n [] (omega arith))

pub index-requires : goal.index-requires
index-requires c =
    let listed = names_listed (number_cmp c.args.catalogue.now.names) c.args.durations c.in_ok-figures.figures.items c.in_ok-marked.marked.items c.deref-2.result.now c.in_ok-names.names.items
    c.in_ok-figures.ensures.count c.in_ok-figures.ensures.figures (c.in_ok-marked.ensures ∙ ap (map has_some) c.deref.ensures.value) c.deref-2.ensures.value c.in_ok-names.ensures in
    let items = c.deref-name-items.result.now in
    let i = c.names.name-index in
    let n = get_or items i 0 in
    let lt : n < length c.args.durations = name_within (number_cmp c.args.catalogue.now.names) c.args.durations c.in_ok-names.names.items items i listed c.deref-name-items.ensures.value c.names-test.true in
    let same = c.requires.names in
    let steps = c.requires.steps in
    omega (arith, c.in_ok-figures.ensures.count, c.in_ok-figures.figures.ok.0)

pub overflow_cast-steps : goal.overflow_cast-steps
overflow_cast-steps c =
    let listed = names_listed (number_cmp c.args.catalogue.now.names) c.args.durations c.in_ok-figures.figures.items c.in_ok-marked.marked.items c.deref-2.result.now c.in_ok-names.names.items
    c.in_ok-figures.ensures.count c.in_ok-figures.ensures.figures (c.in_ok-marked.ensures ∙ ap (map has_some) c.deref.ensures.value) c.deref-2.ensures.value c.in_ok-names.ensures in
    let items = c.deref-name-items.result.now in
    let i = c.names.name-index in
    let n = get_or items i 0 in
    let lt : n < length c.args.durations = name_within (number_cmp c.args.catalogue.now.names) c.args.durations c.in_ok-names.names.items items i listed c.deref-name-items.ensures.value c.names-test.true in
    let same = c.requires.names in
    let steps = c.requires.steps in
    let short : length c.of-steps.result.now < 2 ^ 32 = subst (λ (ns : List ℕ). length ns < 2 ^ 32) (get_or_from_slice_get c.args.on_paths.now n c.of-steps.result.now [] c.of-steps.ensures) (c.requires.short_steps n [] (omega arith)) in
    omega arith

pub names-preserved : goal.names-preserved
names-preserved c =
    let listed = names_listed (number_cmp c.args.catalogue.now.names) c.args.durations c.in_ok-figures.figures.items c.in_ok-marked.marked.items c.deref-2.result.now c.in_ok-names.names.items
    c.in_ok-figures.ensures.count c.in_ok-figures.ensures.figures (c.in_ok-marked.ensures ∙ ap (map has_some) c.deref.ensures.value) c.deref-2.ensures.value c.in_ok-names.ensures in
    let items = c.deref-name-items.result.now in
    let i = c.names.name-index in
    let n = get_or items i 0 in
    let lt : n < length c.args.durations = name_within (number_cmp c.args.catalogue.now.names) c.args.durations c.in_ok-names.names.items items i listed c.deref-name-items.ensures.value c.names-test.true in
    let same = c.requires.names in
    let steps = c.requires.steps in
    let list : list_at c.args.on_paths.now n ≡ c.of-steps.result.now = get_or_from_slice_get c.args.on_paths.now n c.of-steps.result.now [] c.of-steps.ensures in
    let row : SegmentRow = record { name = n; figures = c.index.result.now; on_path = length c.of-steps.result.now; on_path_sum = c.sum_and_greatest-sum.result.0 } in
    let is : IsRowFrom c.args.durations c.args.on_paths.now row = record {
      below = lt;
      figures = subst (AreFigures (list_at c.args.durations n)) (sym c.index.ensures) (c.in_ok-figures.ensures.figures n c.index.result.now lt);
      on_path = ap length (sym list);
      on_path_sum = c.sum_and_greatest-sum.ensures.sum ∙ ap sum (sym list);
    } in
    rw c.in_ok-push.ensures.items (record {
      names = map_push (λ (r : SegmentRow). r.name) c.names.rows.items row ∙ (ap (λ (l : List ℕ). l ++ n ∷ []) c.names.invariant.names ∙ sym (take_more items i 0 c.names-test.true));
      rows = All-push (IsRowFrom c.args.durations c.args.on_paths.now) c.names.rows.items row c.names.invariant.rows is;
    })

pub returns : goal.returns
returns c =
    let listed = names_listed (number_cmp c.args.catalogue.now.names) c.args.durations c.in_ok-figures.figures.items c.in_ok-marked.marked.items c.deref-2.result.now c.in_ok-names.names.items
    c.in_ok-figures.ensures.count c.in_ok-figures.ensures.figures (c.in_ok-marked.ensures ∙ ap (map has_some) c.deref.ensures.value) c.deref-2.ensures.value c.in_ok-names.ensures in
    let items = c.deref-name-items.result.now in
    record {
      names = subst (ListsExactly (number_cmp c.args.catalogue.now.names) (λ n. 0 < length (list_at c.args.durations n)))
          (sym (c.names.invariant.names ∙ (take_all c.names.name-index items c.names-test.false ∙ c.deref-name-items.ensures.value))) listed;
      each = c.names.invariant.rows;
    }
