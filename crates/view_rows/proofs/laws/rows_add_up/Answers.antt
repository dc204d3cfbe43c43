use Rattle.std.proofs.Common.{◌≡◌, ℕ, ◌+◌, List, length, All, Contains, arith, sym, ap, ◌∙◌, subst}
use Rattle.std.specs.Prelude.{nat_eq}
use Rattle.std.proofs.lemmas.List.{length-map}
use Rattle.std.proofs.lemmas.List.Elements.{All-contains}
use Rattle.std.proofs.lemmas.Slice.Zip.{AllZip-long}
use Rattle.trace_types.specs.declared.named_segment.NamedSegment.{NamedSegment}
use Rattle.trace_types.specs.declared.named_trace.NamedTrace.{NamedTrace}
use Rattle.trace_types.specs.Parts.{by_number}
use Rattle.trace_rules.specs.CriticalPaths.{IsCriticalPath}
use Rattle.trace_rules.specs.Durations.{paths_with, time_on}
use Rattle.model_meet.specs.RelationBits.{KeepsExclusion}
use Rattle.latency_report.specs.declared.segment_row.SegmentRow.{SegmentRow}
use Rattle.trace_rules.specs.ReportRows.{AreFiguresOf}
use Rattle.slow_tail.specs.declared.tail_row.TailRow.{TailRow}
use Rattle.slow_tail.specs.SlowReports.{trace_latencies}
use Rattle.trace_rules.specs.ReportRows.{AreSlowAndRest}
use Rattle.trace_rules.specs.SlowTraces.{rest_of, slow_of}
use Rattle.view_rows.proofs.laws.rows_add_up.Goals as goal

pub returns : goal.returns
returns c = λ known words traces report full row all slow is has_row has_all same.
    let latencies = trace_latencies traces in
    let of_row = All-contains (λ (r : TailRow). AreSlowAndRest by_number nat_eq (slow_of latencies slow.paths) (rest_of latencies slow.paths) r.name r.slow_on r.slow_sum r.rest_on r.rest_sum) report.rows row slow.rows has_row in
    let of_all = All-contains (λ (r : SegmentRow). AreFiguresOf by_number nat_eq traces is.paths r.name r.figures r.on_path r.on_path_sum) full.rows all is.rows has_all in
    let one : slow.paths ≡ is.paths = c.paths_by_bits_are_one.ensures words traces slow.paths is.paths slow.critical_paths is.critical_paths in
    let many : length slow.paths ≡ length latencies = AllZip-long (IsCriticalPath by_number (KeepsExclusion words)) traces slow.paths slow.critical_paths ∙ sym (length-map traces (λ (t : NamedTrace). t.latency)) in
    let parts = c.paths_add_up.ensures by_number nat_eq row.name latencies slow.paths many in
    let count : paths_with by_number nat_eq row.name slow.paths ≡ all.on_path =
    ap (λ (n : ℕ). paths_with by_number nat_eq n slow.paths) same ∙ (ap (paths_with by_number nat_eq all.name) one ∙ sym of_all.on_path) in
    let time : time_on by_number nat_eq row.name slow.paths ≡ all.on_path_sum =
    ap (λ (n : ℕ). time_on by_number nat_eq n slow.paths) same ∙ (ap (time_on by_number nat_eq all.name) one ∙ sym of_all.on_path_sum) in
    record {
      counts = ap (λ (k : ℕ). k + row.rest_on) of_row.slow_on ∙ (ap (λ (k : ℕ). paths_with by_number nat_eq row.name (slow_of latencies slow.paths) + k) of_row.rest_on ∙ (parts.counts ∙ count));
      times = ap (λ (k : ℕ). k + row.rest_sum) of_row.slow_sum ∙ (ap (λ (k : ℕ). time_on by_number nat_eq row.name (slow_of latencies slow.paths) + k) of_row.rest_sum ∙ (parts.times ∙ time));
    }
