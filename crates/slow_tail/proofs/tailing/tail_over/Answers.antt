use Rattle.std.proofs.Common.{◌≡◌, ◌↔◌, ℕ, Bool, List, map, length, get_or, All, Contains, Some, true, arith, sym, ap, ◌∙◌, subst}
use Rattle.std.specs.Borrow.{Bor}
use Rattle.std.specs.Prelude.{count_by, nat_eq, not, slice_get}
use Rattle.std.proofs.lemmas.List.{length-map}
use Rattle.refute_tests.specs.Clearing.{HaveNamesBelow}
use Rattle.segment_names.specs.Known.{Known}
use Rattle.trace_types.specs.declared.named_segment.NamedSegment.{NamedSegment}
use Rattle.trace_types.specs.declared.named_trace.NamedTrace.{NamedTrace}
use Rattle.trace_types.specs.Listing.{ListsExactly}
use Rattle.trace_types.specs.NamedSegments.{number_of_name}
use Rattle.trace_types.specs.Parts.{by_number, segments_of}
use Rattle.trace_paths.specs.NameOrders.{AreNamesOf, number_cmp}
use Rattle.trace_paths.specs.Tables.{IsTableOf}
use Rattle.trace_types.proofs.ExactLemmas.{ListsExactly-same}
use Rattle.slow_tail.specs.declared.tail_row.TailRow.{TailRow}
use Rattle.slow_tail.specs.SlowReports.{trace_latencies}
use Rattle.trace_rules.specs.ReportRows.{AreSlowAndRest}
use Rattle.trace_rules.specs.SlowTraces.{IsFloor, marked, rest_of, slow_count, slow_marks, slow_of, unmarked}
use Rattle.slow_tail.proofs.MarkLemmas.{All-kept, length-kept}
use Rattle.kept_books.specs.KeptBooks.{traces_in}
use Rattle.trace_paths.specs.NumberedPaths.{IsNamedPath}
use Rattle.trace_paths.proofs.PathTimeLemmas.{joined, traces_at, segments_at, segments_shown, latencies_shown, short_paths}
use Rattle.slow_tail.proofs.TailLemmas.{few_in_book, length-marks, names_in_book, row_of}
use Rattle.slow_tail.proofs.tailing.tail_over.Goals as goal

pub find_slow-requires : goal.find_slow-requires
find_slow-requires c =
    let shown = ap length c.deref.ensures.value in
    let made = ap length c.in_ok-latencies.ensures in
    let many = length-map c.args.traces.now (λ (t : Bor NamedTrace). t.now.latency) in
    let few = few_in_book c.args.book.now c.args.traces.now c.names-names.ensures.kept c.requires.traces in
    omega arith

pub tabulate_paths-requires-clause-named : goal.tabulate_paths-requires-clause-named
tabulate_paths-requires-clause-named c = subst (λ (n : ℕ). All (IsNamedPath n) c.args.paths.now) (sym c.names-names.ensures.count) c.requires.named

pub tabulate_paths-requires-clause-count : goal.tabulate_paths-requires-clause-count
tabulate_paths-requires-clause-count c =
    let marks = ap length c.deref-2.ensures.value in
    let told = ap length c.in_ok-slow.ensures.marks in
    let each = length-marks c.deref.result.now in
    let shown = ap length c.deref.ensures.value in
    let made = ap length c.in_ok-latencies.ensures in
    let many = length-map c.args.traces.now (λ (t : Bor NamedTrace). t.now.latency) in
    let paths = c.requires.count in
    omega arith

pub mark_names-requires : goal.mark_names-requires
mark_names-requires c =
    subst (λ (n : ℕ). All (λ (t : Bor NamedTrace). HaveNamesBelow n t.now) c.args.traces.now) (sym c.names-names.ensures.count)
    (names_in_book c.args.book.now c.args.traces.now c.names-names.ensures.kept c.requires.traces)

pub make_rows-requires-clause-short_slow : goal.make_rows-requires-clause-short_slow
make_rows-requires-clause-short_slow c =
    let named : All (IsNamedPath c.names-names.result) c.args.paths.now = subst (λ (n : ℕ). All (IsNamedPath n) c.args.paths.now) (sym c.names-names.ensures.count) c.requires.named in
    let few = few_in_book c.args.book.now c.args.traces.now c.names-names.ensures.kept c.requires.traces in
    let paths = c.requires.count in
    let most = length-kept (λ b. b) c.deref-2.result.now c.args.paths.now in
    short_paths c.names-names.result (marked c.deref-2.result.now c.args.paths.now) c.in_ok-tables.tables.slow c.in_ok-tables.ensures.slow
    (All-kept (IsNamedPath c.names-names.result) (λ b. b) c.deref-2.result.now c.args.paths.now named) (omega arith)

pub make_rows-requires-clause-short_rest : goal.make_rows-requires-clause-short_rest
make_rows-requires-clause-short_rest c =
    let named : All (IsNamedPath c.names-names.result) c.args.paths.now = subst (λ (n : ℕ). All (IsNamedPath n) c.args.paths.now) (sym c.names-names.ensures.count) c.requires.named in
    let few = few_in_book c.args.book.now c.args.traces.now c.names-names.ensures.kept c.requires.traces in
    let paths = c.requires.count in
    let most = length-kept not c.deref-2.result.now c.args.paths.now in
    short_paths c.names-names.result (unmarked c.deref-2.result.now c.args.paths.now) c.in_ok-tables.tables.rest c.in_ok-tables.ensures.rest
    (All-kept (IsNamedPath c.names-names.result) not c.deref-2.result.now c.args.paths.now named) (omega arith)

pub returns : goal.returns
returns c = λ words critical.
    let book = c.args.book.now in
    let known = book.known.names in
    let traces = traces_in book in
    let ts = c.args.traces.now in
    let paths = c.args.paths.now in
    let names = c.names-names.result in
    let named : All (IsNamedPath names) paths = subst (λ (n : ℕ). All (IsNamedPath n) paths) (sym c.names-names.ensures.count) c.requires.named in
    let are : traces_at ts ≡ traces = c.requires.traces in
    let latencies : List ℕ = trace_latencies traces in
    let told : c.deref.result.now ≡ latencies =
    c.deref.ensures.value ∙ (c.in_ok-latencies.ensures ∙ (latencies_shown ts ∙ ap (map (λ (t : NamedTrace). t.latency)) are)) in
    let marks : c.deref-2.result.now ≡ slow_marks latencies = c.deref-2.ensures.value ∙ (c.in_ok-slow.ensures.marks ∙ ap slow_marks told) in
    let slow : marked c.deref-2.result.now paths ≡ slow_of latencies paths = ap (λ (m : List Bool). marked m paths) marks in
    let rest : unmarked c.deref-2.result.now paths ≡ rest_of latencies paths = ap (λ (m : List Bool). unmarked m paths) marks in
    let slow_table : IsTableOf names (joined (slow_of latencies paths)) c.in_ok-tables.tables.slow =
    subst (λ (l : List (List NamedSegment)). IsTableOf names (joined l) c.in_ok-tables.tables.slow) slow c.in_ok-tables.ensures.slow in
    let rest_table : IsTableOf names (joined (rest_of latencies paths)) c.in_ok-tables.tables.rest =
    subst (λ (l : List (List NamedSegment)). IsTableOf names (joined l) c.in_ok-tables.tables.rest) rest c.in_ok-tables.ensures.rest in
    let segments = segments_at ts in
    let same : segments ≡ segments_of by_number traces = segments_shown ts ∙ ap (segments_of by_number) are in
    let many : length c.deref.result.now ≡ length traces = ap length told ∙ length-map traces (λ (t : NamedTrace). t.latency) in
    let rows = c.in_ok-rows.ensures in
    let listed : ListsExactly (number_cmp known) (λ n. slice_get c.deref-3.result.now n ≡ Some true) (map (λ (r : TailRow). r.name) c.in_ok-rows.rows.items) =
    subst (λ (k : Known). ListsExactly (number_cmp k.names) (λ n. slice_get c.deref-3.result.now n ≡ Some true) (map (λ (r : TailRow). r.name) c.in_ok-rows.rows.items)) c.catalogue.ensures.catalogue rows.names in
    record {
      paths = paths;
      critical_paths = critical;
      count = omega (arith, few_in_book book ts c.names-names.ensures.kept are, ap length are, length-map ts (λ (t : Bor NamedTrace). t.now));
      slow = c.in_ok-slow.ensures.count ∙ ap slow_count many;
      exact = ap (λ (l : List ℕ). count_by (λ (m : Bool). m) (slow_marks l)) (sym told) ∙ c.in_ok-slow.ensures.exact;
      floor = subst (λ (l : List ℕ). IsFloor (slow_of l l) c.in_ok-slow.slow.floor) told c.in_ok-slow.ensures.floor;
      names = subst (λ (l : List TailRow). AreNamesOf known traces (map (λ (r : TailRow). r.name) l)) (sym c.of.ensures)
          (subst (λ (l : List NamedSegment). ListsExactly (number_cmp known) (Contains (map number_of_name l)) (map (λ (r : TailRow). r.name) c.in_ok-rows.rows.items)) same
          (ListsExactly-same (number_cmp known) (λ n. slice_get c.deref-3.result.now n ≡ Some true) (Contains (map number_of_name segments))
          (subst (λ (m : List Bool). (n : ℕ) → (slice_get m n ≡ Some true) ↔ Contains (map number_of_name segments) n) (sym c.deref-3.ensures.value) c.in_ok-marked.ensures.exactly) (map (λ (r : TailRow). r.name) c.in_ok-rows.rows.items) listed));
      rows = subst (All (λ (r : TailRow). AreSlowAndRest by_number nat_eq (slow_of latencies paths) (rest_of latencies paths) r.name r.slow_on r.slow_sum r.rest_on r.rest_sum)) (sym c.of.ensures)
          (λ k d lt. row_of names (slow_of latencies paths) (rest_of latencies paths) c.in_ok-tables.tables.slow c.in_ok-tables.tables.rest (get_or c.in_ok-rows.rows.items k d) slow_table rest_table
          (All-kept (IsNamedPath names) (λ b. b) (slow_marks latencies) paths named) (All-kept (IsNamedPath names) not (slow_marks latencies) paths named) (rows.each k d lt));
    }
