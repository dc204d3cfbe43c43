-- The report, from its tables and marks.
use Rattle.std.proofs.Common.{◌≡◌, ℕ, ◌<◌, ◌^◌, Bool, cond, eqb, List, map, length, get_or, slice_get, Some, true, All, Contains, Ordering, arith, ap, sym, ◌∙◌, subst}
use Rattle.std.specs.Borrow.{Bor}
use Rattle.std.specs.Prelude.{sum}
use Rattle.std.proofs.lemmas.List.{length-map}
use Rattle.std.proofs.lemmas.List.Elements.{Contains-get_or}
use Rattle.std.proofs.lemmas.Option.{slice_get_within}
use Rattle.day_partitions.specs.Books.{all_traces}
use Rattle.kept_books.specs.KeptBooks.{IsKeptBook, KeptState, traces_in}
use Rattle.refute_tests.specs.Clearing.{HaveNamesBelow}
use Rattle.trace_types.specs.declared.named_segment.NamedSegment.{NamedSegment}
use Rattle.trace_types.specs.declared.named_trace.NamedTrace.{NamedTrace}
use Rattle.trace_types.specs.Listing.{ListsExactly}
use Rattle.trace_types.specs.Parts.{Parts, by_number}
use Rattle.trace_paths.specs.NumberedPaths.{IsNamedPath}
use Rattle.trace_rules.specs.Durations.{has_name, durations_of}
use Rattle.trace_paths.specs.Tables.{IsTableOf}
use Rattle.trace_paths.proofs.BookLemmas.{All-unmap, all_in_days}
use Rattle.trace_paths.proofs.PathTimeLemmas.{joined}
use Rattle.slow_tail.specs.declared.tail_row.TailRow.{TailRow}
use Rattle.slow_tail.specs.inner.TableRows.{IsTailRowFrom}
use Rattle.slow_tail.specs.SlowLaws.{AddUp}
use Rattle.trace_rules.specs.ReportRows.{AreSlowAndRest}
use Rattle.trace_rules.specs.SlowTraces.{slow_marks, with_indices, is_slow}
use Rattle.slow_tail.proofs.MarkLemmas.{sums_add_up}
use Rattle.slow_tail.proofs.PathLemmas.{table_has}
use Rattle.slow_tail.proofs.SlowLemmas.{length_places}

-- there is a mark for each latency
pub length-marks : (latencies : List ℕ) → length (slow_marks latencies) ≡ length latencies
length-marks latencies = length-map (with_indices latencies) (is_slow latencies) ∙ length_places latencies

-- a marked name is within the marks
pub name_within : (cmp : ℕ → ℕ → Ordering) (marks : List Bool) (names items : List ℕ) (i : ℕ) → ListsExactly cmp (λ n. slice_get marks n ≡ Some true) names → items ≡ names → i < length items → get_or items i 0 < length marks
name_within cmp marks names items i listed is lt =
    let n = get_or items i 0 in
    slice_get_within marks n true ((listed.exactly n).0 (subst (λ (l : List ℕ). Contains l n) is (Contains-get_or items i 0 lt)))

-- a row from the tables is a row of the name
pub row_of : (names : ℕ) (slow rest : List (List NamedSegment)) (slow_table rest_table : List (List ℕ)) (row : TailRow) → IsTableOf names (joined slow) slow_table → IsTableOf names (joined rest) rest_table → All (IsNamedPath names) slow → All (IsNamedPath names) rest
    → IsTailRowFrom slow_table rest_table row → AreSlowAndRest by_number eqb slow rest row.name row.slow_on row.slow_sum row.rest_on row.rest_sum
row_of names slow rest slow_table rest_table row s r named_slow named_rest is =
    let many = s.count in
    let below = is.below in
    let lt : row.name < names = omega arith in
    let of_slow = table_has names slow slow_table row.name s named_slow lt in
    let of_rest = table_has names rest rest_table row.name r named_rest lt in
    record {
      slow_on = is.slow_on ∙ of_slow.on;
      slow_sum = is.slow_sum ∙ of_slow.sum;
      rest_on = is.rest_on ∙ of_rest.on;
      rest_sum = is.rest_sum ∙ of_rest.sum;
    }

-- what is on the paths of slow traces and of the rest adds up
pub adds_up : {A S N T E : Type 0} (p : Parts A S N T E) (same : N → N → Bool) (name : N) (latencies : List ℕ) (paths : List (List S)) → length paths ≡ length latencies → AddUp p same name latencies paths
adds_up {A} {S} p same name latencies paths many = record {
  counts = sums_add_up (λ (path : List S). cond (has_name p same name path) 1 0) (slow_marks latencies) paths (length-marks latencies ∙ sym many);
  times = sums_add_up (λ (path : List S). sum (durations_of p same name path)) (slow_marks latencies) paths (length-marks latencies ∙ sym many);
}

-- the traces of a book, as they are lent: their names are those of the book, and they are few
pub names_in_book : (k : KeptState) (ts : List (Bor NamedTrace)) → IsKeptBook k → map (λ (t : Bor NamedTrace). t.now) ts ≡ traces_in k → All (λ (t : Bor NamedTrace). HaveNamesBelow (length k.known.names) t.now) ts
names_in_book k ts kept are =
    All-unmap (HaveNamesBelow (length k.known.names)) (λ (t : Bor NamedTrace). t.now) ts
    (subst (All (HaveNamesBelow (length k.known.names))) (sym are) (subst (λ (n : ℕ). All (HaveNamesBelow n) (all_traces k.book.days)) kept.names (all_in_days (HaveNamesBelow k.book.names) k.book.days kept.book.named)))

pub few_in_book : (k : KeptState) (ts : List (Bor NamedTrace)) → IsKeptBook k → map (λ (t : Bor NamedTrace). t.now) ts ≡ traces_in k → length ts < 2 ^ 32
few_in_book k ts kept are =
    let most = kept.book.counted in
    omega (arith, most, ap length are, length-map ts (λ (t : Bor NamedTrace). t.now))
