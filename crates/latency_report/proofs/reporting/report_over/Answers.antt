use Rattle.std.specs.Borrow.{Bor}
use Rattle.std.proofs.lemmas.List.{length-map}
use Rattle.refute_tests.specs.Clearing.{HaveNamesBelow}
use Rattle.segment_names.specs.Known.{Known}
use Rattle.trace_types.specs.declared.named_segment.NamedSegment.{NamedSegment}
use Rattle.trace_types.specs.declared.named_trace.NamedTrace.{NamedTrace}
use Rattle.trace_types.specs.Listing.{ListsExactly}
use Rattle.trace_types.specs.NamedSegments.{number_of_name}
use Rattle.trace_types.specs.Parts.{by_number, segments_of}
use Rattle.trace_paths.specs.NameOrders.{AreNamesOf, number_cmp}
use Rattle.trace_types.proofs.ExactLemmas.{ListsExactly-same}
use Rattle.latency_report.specs.declared.segment_row.SegmentRow.{SegmentRow}
use Rattle.trace_paths.specs.Tables.{list_at}
use Rattle.trace_rules.specs.Numbers.{AreFigures}
use Rattle.trace_rules.specs.ReportRows.{AreFiguresOf}
use Rattle.std.specs.Prelude.{nat_eq}
use Rattle.kept_books.specs.KeptBooks.{traces_in}
use Rattle.std.proofs.Common.{◌≡◌, ◌<◌, ℕ, List, map, length, get_or, All, Contains, arith, sym, ap, ◌∙◌, subst}
use Rattle.trace_paths.specs.NumberedPaths.{IsNamedPath}
use Rattle.trace_paths.proofs.PathTimeLemmas.{traces_at, segments_at, segments_shown, latencies_shown, short_paths}
use Rattle.latency_report.proofs.ReportLemmas.{durations_tell, few_in_book, names_in_book, row_of, segments_below, short_traces}
use Rattle.latency_report.proofs.reporting.report_over.Goals as goal

pub tabulate_traces-requires : goal.tabulate_traces-requires
tabulate_traces-requires c =
    subst (λ (n : ℕ). All (λ (t : Bor NamedTrace). HaveNamesBelow n t.now) c.args.traces.now) (sym c.names-names.ensures.count)
    (names_in_book c.args.book.now c.args.traces.now c.names-names.ensures.kept c.requires.traces)

pub tabulate_paths-requires : goal.tabulate_paths-requires
tabulate_paths-requires c = subst (λ (n : ℕ). All (IsNamedPath n) c.args.paths.now) (sym c.names-names.ensures.count) c.requires.named

pub measure_latencies-requires : goal.measure_latencies-requires
measure_latencies-requires c = few_in_book c.args.book.now c.args.traces.now c.names-names.ensures.kept c.requires.traces

pub make_rows-requires-clause-short : goal.make_rows-requires-clause-short
make_rows-requires-clause-short c =
    short_traces c.names-names.result c.args.traces.now c.in_ok-durations.durations c.in_ok-durations.ensures
    (few_in_book c.args.book.now c.args.traces.now c.names-names.ensures.kept c.requires.traces)

pub make_rows-requires-clause-short_steps : goal.make_rows-requires-clause-short_steps
make_rows-requires-clause-short_steps c =
    let few = few_in_book c.args.book.now c.args.traces.now c.names-names.ensures.kept c.requires.traces in
    short_paths c.names-names.result c.args.paths.now c.in_ok-on_paths.on_paths c.in_ok-on_paths.ensures
    (subst (λ (n : ℕ). All (IsNamedPath n) c.args.paths.now) (sym c.names-names.ensures.count) c.requires.named) (omega (arith, few, c.requires.count))

pub add_lengths-requires-clause-few : goal.add_lengths-requires-clause-few
add_lengths-requires-clause-few c =
    let few = few_in_book c.args.book.now c.args.traces.now c.names-names.ensures.kept c.requires.traces in
    omega (arith, few, c.requires.count)

pub add_lengths-requires-clause-short : goal.add_lengths-requires-clause-short
add_lengths-requires-clause-short c = λ k d lt. (c.requires.named k d lt).few

pub returns : goal.returns
returns c = λ words critical.
    let book = c.args.book.now in
    let known = book.known.names in
    let traces = traces_in book in
    let ts = c.args.traces.now in
    let paths = c.args.paths.now in
    let names = c.names-names.result in
    let are : traces_at ts ≡ traces = c.requires.traces in
    let named : All (IsNamedPath names) paths = subst (λ (n : ℕ). All (IsNamedPath n) paths) (sym c.names-names.ensures.count) c.requires.named in
    let below : All (λ (t : Bor NamedTrace). HaveNamesBelow names t.now) ts =
    subst (λ (n : ℕ). All (λ (t : Bor NamedTrace). HaveNamesBelow n t.now) ts) (sym c.names-names.ensures.count) (names_in_book book ts c.names-names.ensures.kept are) in
    let segments = segments_at ts in
    let same : segments ≡ segments_of by_number traces = segments_shown ts ∙ ap (segments_of by_number) are in
    let rows = c.in_ok-rows.ensures in
    let listed : ListsExactly (number_cmp known) (λ n. 0 < length (list_at c.in_ok-durations.durations n)) (map (λ (r : SegmentRow). r.name) c.in_ok-rows.rows.items) =
    subst (λ (k : Known). ListsExactly (number_cmp k.names) (λ n. 0 < length (list_at c.in_ok-durations.durations n)) (map (λ (r : SegmentRow). r.name) c.in_ok-rows.rows.items)) c.catalogue.ensures.catalogue rows.names in
    record {
      paths = paths;
      critical_paths = critical;
      count = omega (arith, few_in_book book ts c.names-names.ensures.kept are, ap length are, length-map ts (λ (t : Bor NamedTrace). t.now));
      critical = c.add_lengths.ensures;
      latency = subst (λ (l : List ℕ). AreFigures l c.in_ok-latency.latency)
          (latencies_shown ts ∙ ap (map (λ (t : NamedTrace). t.latency)) are) c.in_ok-latency.ensures;
      names = subst (λ (l : List SegmentRow). AreNamesOf known traces (map (λ (r : SegmentRow). r.name) l)) (sym c.of.ensures)
          (subst (λ (l : List NamedSegment). ListsExactly (number_cmp known) (Contains (map number_of_name l)) (map (λ (r : SegmentRow). r.name) c.in_ok-rows.rows.items)) same
          (ListsExactly-same (number_cmp known) (λ n. 0 < length (list_at c.in_ok-durations.durations n)) (Contains (map number_of_name segments))
          (durations_tell names segments c.in_ok-durations.durations c.in_ok-durations.ensures (segments_below names ts below)) (map (λ (r : SegmentRow). r.name) c.in_ok-rows.rows.items) listed));
      rows = subst (All (λ (r : SegmentRow). AreFiguresOf by_number nat_eq traces paths r.name r.figures r.on_path r.on_path_sum)) (sym c.of.ensures)
          (λ k d lt. row_of names traces segments paths c.in_ok-durations.durations c.in_ok-on_paths.on_paths (get_or c.in_ok-rows.rows.items k d) same c.in_ok-durations.ensures
          c.in_ok-on_paths.ensures named (rows.each k d lt));
    }
