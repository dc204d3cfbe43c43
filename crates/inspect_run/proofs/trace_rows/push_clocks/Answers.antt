use Rattle.std.proofs.Common.{◌≡◌, ◌++◌, ◌∙◌, List, ℕ, ap, append_assoc}
use Rattle.std.specs.List.{flat_map}
use Rattle.machine_quality.specs.Told.{NamedClock, clocks_under}
use Rattle.machine_quality.specs.declared.numbered_clock.NumberedClock.{NumberedClock}
use Rattle.inspect_run.specs.MachineRows.{machine_rows}
use Rattle.inspect_run.specs.TraceRows.{clock_measures, measure_row, requests_in}
use Rattle.inspect_run.specs.inner.Traces.{AppendsClocks}
use Rattle.inspect_run.proofs.ResultLemmas.{on_ok_with}
use Rattle.inspect_run.proofs.trace_rows.push_clocks.Goals as goal

pub returns : goal.returns
returns c =
    let traces = c.args.traces.now.traces in
    let facts = c.args.facts.now in
    let machines : List (List ℕ) = c.args.traces.now.texts.machines in
    let told : List NamedClock = clocks_under machines c.in_ok-told.told.items in
    let first : List ℕ = flat_map (measure_row (requests_in traces) facts) clock_measures in
    let old : List ℕ = c.args.text.now.items in
    let between : List ℕ = c.push_measures.new.text.items in
    let new : List ℕ = c.push_machine_rows.new.text.items in
    let measured : between ≡ old ++ first = c.in_ok-push_measures.ensures in
    on_ok_with {A = new ≡ between ++ machine_rows (clocks_under machines c.deref.result.now)} {B = AppendsClocks traces facts old new} c.push_machine_rows.result (λ h. record {
      told = told;
      heard = c.in_ok-told.ensures.told;
      appended =
          h ∙ ap (λ (ns : List NumberedClock). between ++ machine_rows (clocks_under machines ns)) c.deref.ensures.value
          ∙ ap (λ (t : List ℕ). t ++ machine_rows told) measured ∙ append_assoc old first (machine_rows told);
    }) c.push_machine_rows.ensures
