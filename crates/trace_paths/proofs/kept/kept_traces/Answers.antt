use Rattle.std.proofs.Common.{◌≡◌, ◌++◌, List, length, map, take, All, arith, sym, ap, ◌∙◌, subst}
use Rattle.std.specs.Borrow.{Bor}
use Rattle.std.proofs.lemmas.List.{length-map, take_all}
use Rattle.day_partitions.specs.Books.{all_traces}
use Rattle.refute_tests.specs.Clearing.{HaveNamesBelow}
use Rattle.trace_types.specs.declared.named_trace.NamedTrace.{NamedTrace}
use Rattle.trace_paths.proofs.BookLemmas.{All-unmap, all_in_days, days_more}
use Rattle.trace_paths.proofs.kept.kept_traces.Goals as goal

pub days-preserved : goal.days-preserved
days-preserved c =
    let days = c.args.book.now.days in
    let items = c.traces-trace-items.result.now in
    let end = c.days-place-end.ensures.count in
    c.of_day.invariant ∙ (ap (λ (l : List NamedTrace). all_traces (take c.days.place days) ++ l) (take_all c.of_day.trace-index items c.of_day-test.false)
    ∙ sym (days_more days c.days.place items (omega arith) c.traces-trace-items.ensures))

pub returns-clause-below : goal.returns-clause-below
returns-clause-below c =
    let days = c.args.book.now.days in
    let end = c.days-place-end.ensures.count in
    let book = c.days-place-end.ensures.kept in
    let are : map (λ (t : Bor NamedTrace). t.now) c.days.traces.items ≡ all_traces days =
    c.days.invariant ∙ ap all_traces (take_all c.days.place days (omega (arith, c.days-test.false))) in
    All-unmap (HaveNamesBelow c.args.book.now.names) (λ (t : Bor NamedTrace). t.now) c.days.traces.items
    (subst (All (HaveNamesBelow c.args.book.now.names)) (sym are) (all_in_days (HaveNamesBelow c.args.book.now.names) days book.named))

pub returns-clause-few : goal.returns-clause-few
returns-clause-few c =
    let days = c.args.book.now.days in
    let end = c.days-place-end.ensures.count in
    let book = c.days-place-end.ensures.kept.counted in
    let are : map (λ (t : Bor NamedTrace). t.now) c.days.traces.items ≡ all_traces days =
    c.days.invariant ∙ ap all_traces (take_all c.days.place days (omega (arith, c.days-test.false))) in
    omega (arith, ap length are, length-map c.days.traces.items (λ (t : Bor NamedTrace). t.now))
